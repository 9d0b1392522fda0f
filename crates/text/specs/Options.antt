-- Rust's options as those of the definitions.
use Rattle.std.proofs.Math.Option.{Option, none, some}
use Rattle.std.specs.Prelude.{None, Some}
use Rattle.std.specs.declared.option.Option as code

-- the value, if there is one
abbrev pub option_of : {A : Type 0} → code.Option A → Option A
option_of None = none
option_of (Some a) = some a
