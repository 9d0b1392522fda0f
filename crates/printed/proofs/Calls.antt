-- What a caller of `line_count` and `put_line` gets from the numbers that a call leaves: the lines of its outcome, whole and all.
use mathlib.Core.Path.{◌≡◌, sym, ap, ◌∙◌}
use mathlib.Core.List.{List, []}
use Prim.Native.Nat.{ℕ, ◌≤◌}
use lib.IntN.{ℤ}
use lib.ListN.{length, get_or, take}
use Rattle.report.specs.Encoding.{rows_then}
use Rattle.report.specs.Placed.{Placed}
use Rattle.settlement.specs.Values.{Lent}
use Rattle.settlement.specs.Outcome.{Room, Outcome, outcome}
use Rattle.settlement.specs.Result.{result_of, answer_row}
use Rattle.printed.specs.Printed.{outcome_lines}
use Rattle.printed.specs.Numbers.{line_count, exit_lines, Wide, line_room}
use Rattle.printed.proofs.Counting.{lines_length}
use Rattle.printed.proofs.Room.{line_whole}
use Rattle.printed.proofs.Join.{lines_exit}

-- the lists at entry are any
module _ (L : Lent) (m : Room) (t x : List ℕ) (h e u : List ℤ) where
  abbrev o : Outcome
  o = outcome L m t x

  -- as many lines are counted as the outcome has
  pub call_count : line_count (answer_row (result_of o)) (rows_then (result_of o).held h) (rows_then (result_of o).entries e) (rows_then (result_of o).unmapped u) ≡ length (outcome_lines x o)
  call_count =
      sym (lines_length x (answer_row (result_of o)) (rows_then (result_of o).held h) (rows_then (result_of o).entries e) (rows_then (result_of o).unmapped u)) ∙ ap length (lines_exit x h e u L m t)

  -- and line k is put whole, where numbers have 64 bits and the list has room
  pub call_line :
      Wide (answer_row (result_of o)) → Wide (rows_then (result_of o).held h) → Wide (rows_then (result_of o).entries e) → Wide (rows_then (result_of o).unmapped u) → (k : ℕ) {out out' : List ℕ} {r : ℕ} →
      line_room (length x) ≤ length out → Placed out 0 (get_or (exit_lines x h e u o) k []) out' r → take r out' ≡ get_or (outcome_lines x o) k []
  call_line qa qh qe qu k i p =
      line_whole x (answer_row (result_of o)) (rows_then (result_of o).held h) (rows_then (result_of o).entries e) (rows_then (result_of o).unmapped u) qa qh qe qu k i p ∙
      ap (λ (l : List (List ℕ)). get_or l k []) (lines_exit x h e u L m t)
