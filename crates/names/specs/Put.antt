-- Numbers and bytes put into a lent list.
use Rattle.std.specs.Prelude.{List, ℕ}
use Rattle.std.proofs.lemmas.List.Edits.{sets}

-- the list with these elements from a place on, each where there is room
unfoldable pub put : {A : Type 0} → List A → ℕ → List A → List A
put l at vs = sets l at vs
