-- Laws of the counts of lines and rows.
use mathlib.Core.Path.{◌≡◌, refl, ap, ◌∙◌}
use mathlib.Core.Bool.{Bool, true, false, cond}
use mathlib.Core.List.{List, [], ◌∷◌, map}
use Prim.Native.Nat.{ℕ, zero, suc, ◌+◌, ◌/◌, ◌≤◌, ◌<◌, ◌^◌}
use native.Mathlib.Omega.{arith}
use lib.IntN.{ℤ}
use lib.Signed.{mag}
use lib.ListN.{length, length-append, length-map}
use Rattle.report.proofs.Cells.{carried}
use Rattle.report.specs.Encoding.{held_width, entry_width, unmapped_width, cut_rows}
use Rattle.decimals.specs.Decimal.{natural}
use Rattle.decimals.proofs.Signs.{held}
use Rattle.fields.specs.Columns.{cell}
use Rattle.printed.specs.Numbers.{there, row_count, refused_line, later_lines, row_lines, accepted_lines, lines_of, line_count}

-- a number of the answer that was read
pub counted : {z y : ℤ} {k : ℕ} → mag z < 2 ^ 63 → z ≡ y → k ≡ natural (held z) → k ≡ natural y
counted f e q = q ∙ ap natural (carried f e)

-- no more rows than a list has
pub in_list : (w : ℕ) (answered : ℤ) (l : List ℤ) → row_count w answered l ≤ length l / w
unfolding row_count
in_list w answered l = omega arith

-- so many rows are cut
pub cut_length : (w n : ℕ) (l : List ℤ) → length (cut_rows w n l) ≡ n
unfolding cut_rows
cut_length w zero l = refl
cut_length w (suc n) l = ap suc (cut_length w n _)

-- and so many lines are made of them
pub row_lines_length : (f : List ℤ → List ℕ) (w n : ℕ) (l : List ℤ) → length (map f (cut_rows w n l)) ≡ n
row_lines_length f w n l = length-map (cut_rows w n l) f ∙ cut_length w n l

accepted_length : (x : List ℕ) (a h e u : List ℤ) → length (accepted_lines x a h e u) ≡ 36 + row_count held_width (cell a 2) h + row_count entry_width (cell a 3) e + row_count unmapped_width (cell a 4) u
unfolding accepted_lines row_lines later_lines
accepted_length x a h e u =
    simp (length-append, row_lines_length) (omega arith)

-- the lines are as many as are counted
pub lines_length : (x : List ℕ) (a h e u : List ℤ) → length (lines_of x a h e u) ≡ line_count a h e u
unfolding lines_of line_count
lines_length x a h e u = go (there (cell a 0))
  where
    go : (b : Bool) → length (cond b (refused_line x a ∷ []) (accepted_lines x a h e u)) ≡ cond b 1 (36 + row_count held_width (cell a 2) h + row_count entry_width (cell a 3) e + row_count unmapped_width (cell a 4) u)
    go true = refl
    go false = accepted_length x a h e u
