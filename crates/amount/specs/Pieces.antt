-- A decimal in pieces (R-2): the walk stops after any byte and is taken up again from its state, without the bytes before. proofs/Pieces.antt says how it ends.
use Rattle.std.specs.Prelude.{◌≡◌, List, [], ◌∷◌, ℕ, ◌+◌, ◌^◌, ◌≤◌}
use Rattle.amount.specs.declared.decimal.Walk.{Walk}
use Rattle.amount.specs.declared.decimal.Walk.TheVariants.{Nothing, Whole, Fraction, Malformed}
use Rattle.amount.specs.Walk.{run}

-- calls of `walk_on`, one for each piece: the first is lent the state w, every other the one that the call before it answered, and the last answers v. Of a call on s no more is known than what `walk_on` ensures
pub data InPieces : Walk → List (List ℕ) → Walk → Type 0 where
  none : (w : Walk) → InPieces w [] w
  call : (w u v : Walk) (s : List ℕ) (ss : List (List ℕ)) → u ≡ run w s → InPieces u ss v → InPieces w (s ∷ ss) v

-- a state of fixed size: counts of at most 19 and a size of at most 2^63 + 1
abbrev pub Bounded : Walk → Type 0
Bounded Nothing = Unit {0}
Bounded (Whole g k m) = (k ≤ 19) × (m ≤ 2 ^ 63 + 1)
Bounded (Fraction g k m p) = (k ≤ 19) × (m ≤ 2 ^ 63 + 1) × (p ≤ 19)
Bounded Malformed = Unit {0}
