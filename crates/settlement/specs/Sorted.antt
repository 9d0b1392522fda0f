-- Lists in order, for the law that unmapped names are a sorted set.
use Rattle.std.specs.Prelude.{◌≡◌, List, [], ◌∷◌}
use Rattle.std.proofs.Math.Option.{Option, none, some}
use Prim.Native.Nat.{Ordering}
use Rattle.settlement.specs.Last.{first_given}

-- b, where a comparison with it says that it is the same
abbrev pub if_same : {A : Type 0} → Ordering → A → Option A
if_same Ordering.lt b = none
if_same Ordering.eq b = some b
if_same Ordering.gt b = none

module _ {A : Type 0} (c : A → A → Ordering) where
  -- a comes before the first of a list
  abbrev pub Before : A → List A → Type 0
  Before a [] = Unit {0}
  Before a (b ∷ l) = c a b ≡ Ordering.lt

  -- each comes before the next: ascending, and each once
  abbrev pub Ascending : List A → Type 0
  Ascending [] = Unit {0}
  Ascending (a ∷ l) = Before a l × Ascending l

  -- the first of a list that is the same as a, by the order
  unfoldable pub first_same : A → List A → Option A
  first_same a l = first_given (λ b. if_same (c a b) b) l
