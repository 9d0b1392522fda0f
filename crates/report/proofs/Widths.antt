-- Each row has its width.
use mathlib.Core.Path.{◌≡◌, refl}
use lib.ListN.{length}
use Rattle.report.specs.Rows.{Place, Entry, Held, transfer, vat, allowance, charge, preceding, Unmapped}
use Rattle.report.specs.Encoding.{entry_width, held_width, unmapped_width, entry_row, held_row, unmapped_row}

pub entry-width : (e : Entry Place) → length (entry_row e) ≡ entry_width
unfolding entry_row
entry-width e = refl

pub held-width : (h : Held Place) → length (held_row h) ≡ held_width
unfolding held_row
held-width (transfer t) = refl
held-width (vat v) = refl
held-width (allowance a) = refl
held-width (charge a) = refl
held-width (preceding p) = refl

pub unmapped-width : (u : Unmapped Place) → length (unmapped_row u) ≡ unmapped_width
unfolding unmapped_row
unmapped-width u = refl
