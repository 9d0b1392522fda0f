-- What reading a text gives, in document 01's numbers.
use Rattle.std.proofs.Math.Option.{Option, none, some}
use Rattle.std.specs.Prelude.{ℕ}

-- the message ("Rows", Messages), 0 where there is nothing to say, and the value, where there is one
pub record Answer (A : Type 0) : Type 0 where
  pub message : ℕ
  pub value : Option A

-- a value that was read
abbrev pub read : {A : Type 0} → A → Answer A
read a = record { message = 0; value = some a }

-- a message in place of a value
abbrev pub says : {A : Type 0} → ℕ → Answer A
says n = record { message = n; value = none }

-- neither a value nor anything to say
abbrev pub silent : {A : Type 0} → Answer A
silent = says 0
