-- Laws of numbers and rows read back.
use mathlib.Core.Path.{◌≡◌, ◌∙◌}
use mathlib.Core.List.{List}
use Prim.Native.Nat.{ℕ, ◌+◌, ◌*◌, ◌≤◌, ◌<◌, ◌^◌, Ordering}
use native.Mathlib.Omega.{arith}
use borrow.Author.Tests.{lt-ltb, le-ltb}
use lib.Signed.{mag}
use lib.IntN.{ℤ, pos}
use lib.ListN.{length, get_or, get_or-eq_default}
use mir.Syntax.{w64}
use mir.Val.{to_z, of_z}
use mir.Facts.{to_z-of_z}
use Rattle.text.specs.Order.{order}
use Rattle.text.specs.Span.{clipped}
use Rattle.names.specs.Parent.{parent_number}
use Rattle.report.specs.Rows.{Place, Unmapped}
use Rattle.report.specs.Encoding.{unmapped_width}
use Rattle.settlement.specs.TableDoc.{shows}
use Rattle.unmapped.specs.Row.{or_zero, number, row_key, element_key, standing}

-- a number that is read and passed on
pub read_back : (z : ℤ) {r : ℕ} → mag z < 2 ^ 63 → r ≡ or_zero (to_z w64 (of_z w64 z)) → r ≡ or_zero z
read_back z f e = let q : to_z w64 (of_z w64 z) ≡ z = to_z-of_z {w = w64} (record { sfits = f }) in e ∙ rw q

-- past the end of the list
pub past_end : (l : List ℤ) (n : ℕ) → length l ≤ n → 0 ≡ or_zero (get_or l n (pos 0))
past_end l n h = rw (get_or-eq_default l (pos 0) h)

pub past_rows : (l : List ℤ) (k j : ℕ) → length l ≤ k → 0 ≡ number l k j
unfolding number
past_rows l k j h = past_end l (k * unmapped_width + j) (omega arith)

-- how an element stands to a row: by their parents, or else by their names
module _ (x : List ℕ) (l : List ℤ) (u : Unmapped Place) (k : ℕ) {own held : ℕ} (p : own ≡ parent_number u.parent) (q : held ≡ number l k 0) where
  pub standing_less : own < held → Ordering.lt ≡ standing x l u k
  unfolding standing element_key row_key order
  standing_less h = rw (← p, ← q, lt-ltb own held h)

  module _ (h : held ≤ own) where
    pub standing_greater : held < own → Ordering.gt ≡ standing x l u k
    unfolding standing element_key row_key order
    standing_greater h' = rw (← p, ← q, le-ltb own held h, lt-ltb held own h')

    pub standing_names : {s t : List ℕ} {start len : ℕ} {o : Ordering} → own ≤ held → s ≡ shows x u.name → t ≡ clipped x start len → start ≡ number l k 1 → len ≡ number l k 2 → o ≡ order s t → o ≡ standing x l u k
    unfolding standing element_key row_key order
    standing_names h' e f a b g = g ∙ rw (← p, ← q, le-ltb own held h, le-ltb held own h', e, f, a, b)
