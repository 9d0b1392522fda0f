-- The room of the lent lists, test by test (refusal 10).
use mathlib.Core.Path.{◌≡◌, sym, ◌∙◌}
use mathlib.Core.Bool.{Bool, true, false, ◌||◌}
use mathlib.Core.List.{List}
use Prim.Native.Nat.{ℕ, ◌*◌, ◌/◌, ◌≤◌, ◌<◌}
use native.Mathlib.Nat.{mul_comm, div-lt_iff_lt-mul, le-div_iff_mul-le}
use borrow.Author.Tests.{lt-ltb, le-ltb}
use lib.Dec.{ltb}
use Rattle.table.specs.Table.{records}
use Rattle.report.specs.Encoding.{held_room, entry_room, unmapped_room}
use Rattle.settlement.specs.Outcome.{Room, cramped}

-- whether a numbers are fewer than w for each of n records, as the code tests it
module _ (w a n : ℕ) (positive : 0 < w) where
  pub short : a / w < n → ltb a (w * n) ≡ true
  short p = lt-ltb a (w * n) (rw (mul_comm w n) ((div-lt_iff_lt-mul positive).0 p))

  pub roomy : n ≤ a / w → ltb a (w * n) ≡ false
  roomy p = le-ltb a (w * n) (rw (mul_comm w n) ((le-div_iff_mul-le positive).0 p))

-- what was tested is refusal 10
pub cramped_is : (m : Room) (t : List ℕ) {n : ℕ} {b z : Bool} → n ≡ records t → b ≡ (ltb m.held (held_room * n) || (ltb m.entries (entry_room * n) || ltb m.unmapped (unmapped_room * n))) → b ≡ z → cramped m t ≡ z
unfolding cramped
cramped_is m t k e f = rw k at (sym e ∙ f)
