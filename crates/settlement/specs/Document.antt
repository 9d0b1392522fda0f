-- A document as the reader sees it: elements N, and what stands for a text, X (a place of the table's text, or the bytes themselves).
use Rattle.std.specs.Prelude.{List, ℕ}
use Rattle.std.proofs.Math.Option.{Option, none, some}

-- name, text and attributes (by name) of an element, its children in order; the bytes of a text, a part of it, and the empty text
pub record Doc (N X : Type 0) : Type 0 where
  pub name : N → X
  pub text : N → Option X
  pub attr : N → List ℕ → Option X
  pub kids : N → List N
  pub bytes : X → List ℕ
  pub cut : X → ℕ → ℕ → X
  pub empty : X

-- what an option holds, or what stands for nothing
abbrev pub maybe : {A B : Type 0} → B → (A → B) → Option A → B
maybe b f none = b
maybe b f (some a) = f a

-- the first that is there
abbrev pub or_else : {A : Type 0} → Option A → Option A → Option A
or_else none b = b
or_else (some a) b = some a

-- the second, if it is there, else the first
abbrev pub or : {A : Type 0} → A → Option A → A
or a none = a
or a (some b) = b
