-- Lists whose elements have numbers from 1 on.
use Rattle.std.specs.Prelude.{List, ℕ, zero, suc}
use Rattle.std.proofs.Math.Option.{Option, none}
use Rattle.std.proofs.Math.ListN.{get_elem?}

-- the element that has a number
unfoldable pub nth : {A : Type 0} → List A → ℕ → Option A
nth l zero = none
nth l (suc i) = get_elem? l i
