-- The search for the place of an element among rows, by halving.
use Rattle.std.specs.Prelude.{cond, List, ltb, ℤ}
use Prim.Native.Nat.{ℕ, zero, suc, ◌+◌, ◌-◌, ◌/◌, Ordering}
use Rattle.report.specs.Rows.{Place, Unmapped}
use Rattle.unmapped.specs.Row.{standing}
use Rattle.std.specs.Prelude.{Option, None, Some}

-- the row in the middle
abbrev pub middle : ℕ → ℕ → ℕ
middle lo hi = lo + (hi - lo) / 2

-- before it, there, or behind it
abbrev pub turned : Ordering → Option ℕ → Option ℕ → Option ℕ
turned Ordering.lt before behind = before
turned Ordering.eq before behind = None
turned Ordering.gt before behind = behind

-- the spot between rows lo and hi, by how the element stands to each row; as many halvings as there are rows are enough
unfoldable pub halve : (ℕ → Ordering) → ℕ → ℕ → ℕ → Option ℕ
halve c zero lo hi = Some lo
halve c (suc n) lo hi = cond (ltb lo hi) (turned (c (middle lo hi)) (halve c n lo (middle lo hi)) (halve c n (middle lo hi + 1) hi)) (Some lo)

-- the spot of an element among the first rows of a list
unfoldable pub sought : List ℕ → List ℤ → ℕ → Unmapped Place → Option ℕ
sought x l count u = halve (standing x l u) count 0 count
