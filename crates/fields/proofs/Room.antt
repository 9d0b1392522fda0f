-- How long the fields of a row are. Numbers are those of 64 bits.
use mathlib.Core.Path.{◌≡◌}
use mathlib.Core.Bool.{Bool, true, false, cond}
use mathlib.Core.List.{List, [], ◌∷◌, ◌++◌}
use mathlib.Core.Option.{none, some}
use Prim.Native.Nat.{ℕ, ◌+◌, ◌^◌, ◌≤◌, ◌<◌}
use native.Mathlib.Omega.{arith}
use lib.Dec.{eqb}
use lib.IntN.{ℤ, pos, negsuc}
use lib.Signed.{mag}
use lib.ListN.{length, drop, length-append, length-take, length-drop, length-map}
use lib.Seq.{get_or-drop}
use Rattle.text.specs.Utf8.{bytes, encode}
use Rattle.text.specs.Span.{clipped}
use Rattle.report.specs.Columns.{Column, text, plain, amount, percent, date, width}
use Rattle.decimals.specs.Decimal.{decimal, signed, natural}
use Rattle.decimals.proofs.Room.{decimal_length, signed_length}
use Rattle.fields.specs.Line.{printed, printable, field, percentage, tabbed}
use Rattle.fields.specs.Columns.{cell, text_shown, amount_shown, percent_shown, date_shown, shown, fields}

pub printable_length : (s : List ℕ) → length (printable s) ≡ length s
unfolding printable
printable_length s = length-map s printed

pub clipped_length : (x : List ℕ) (s n : ℕ) → length (clipped x s n) ≤ length x
unfolding clipped
clipped_length x s n = omega (arith, length-take n (drop s x), length-drop s x)

-- what a column shows
text-length : (x : List ℕ) (a b : ℤ) → length (field (text_shown x a b)) ≤ length x + 1
unfolding field text_shown bytes encode
text-length x (pos s) (pos n) = rw (printable_length (clipped x s n)) (omega (arith, clipped_length x s n))
text-length x (pos s) (negsuc n) = omega arith
text-length x (negsuc s) b = omega arith

amount_length : (a b : ℤ) → mag b < 2 ^ 63 → length (field (amount_shown a b)) ≤ 20
unfolding field amount_shown bytes encode
amount_length a b g = go (eqb (natural a) 0)
  where
    go : (p : Bool) → length (field (cond p none (some (signed b)))) ≤ 20
    go true = omega arith
    go false = signed_length b g

percent_length : (a b : ℤ) → mag a < 2 ^ 63 → mag b < 2 ^ 63 → length (field (percent_shown a b)) ≤ 40
unfolding field percent_shown percentage bytes encode
percent_length a (pos k) f g =
    rw (length-append (signed a ++ (0x2F ∷ [])) (decimal k), length-append (signed a) (0x2F ∷ [])) (omega (arith, signed_length a f, decimal_length k 18 (omega arith)))
percent_length a (negsuc k) f g = omega arith

date_length : (a : ℤ) → mag a < 2 ^ 63 → length (field (date_shown a)) ≤ 19
unfolding field date_shown bytes encode
date_length (pos n) f = decimal_length n 18 (omega arith)
date_length (negsuc n) f = omega arith

-- room for what a column shows and its tab, in a line about a text of n bytes
abbrev pub column_room : ℕ → Column → ℕ
column_room n text = n + 2
column_room n plain = 21
column_room n amount = 21
column_room n percent = 41
column_room n date = 20

abbrev pub columns_room : ℕ → List Column → ℕ
columns_room n [] = 0
columns_room n (c ∷ cs) = column_room n c + columns_room n cs

module _ (x : List ℕ) where
  pub field_length : (c : Column) (v : List ℤ) → ((i : ℕ) → mag (cell v i) < 2 ^ 63) → length (field (shown x c v)) < column_room (length x) c
  unfolding field shown
  field_length text v h = omega (arith, text-length x (cell v 0) (cell v 1))
  field_length plain v h = omega (arith, signed_length (cell v 0) (h 0))
  field_length amount v h = omega (arith, amount_length (cell v 0) (cell v 1) (h 1))
  field_length percent v h = omega (arith, percent_length (cell v 0) (cell v 1) (h 0) (h 1))
  field_length date v h = omega (arith, date_length (cell v 0) (h 0))

  pub fields_length : (cs : List Column) (row : List ℤ) → ((i : ℕ) → mag (cell row i) < 2 ^ 63) → length (tabbed (fields x cs row)) ≤ columns_room (length x) cs
  unfolding tabbed fields
  fields_length [] row h = omega arith
  fields_length (c ∷ cs) row h =
      let r = fields_length cs (drop (width c) row) (λ i. rw (get_or-drop (width c) row i (pos 0)) (h (width c + i))) in
      rw (length-append (field (shown x c row)) (tabbed (fields x cs (drop (width c) row)))) (omega (arith, r, field_length c row h))
