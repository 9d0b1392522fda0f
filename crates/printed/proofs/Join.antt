-- The lines made of a call's numbers are those of its outcome.
use mathlib.Core.Path.{◌≡◌, refl, ap, ◌∙◌}
use mathlib.Core.Bool.{true}
use mathlib.Core.List.{List, [], ◌∷◌, ◌++◌, map, flatten, append_assoc}
use mathlib.Core.Option.{Option, none, some}
use Prim.Native.Nat.{ℕ, ◌*◌, ◌/◌, ◌≤◌, ◌<◌}
use native.Mathlib.Omega.{arith}
use native.Mathlib.Nat.{le-div_iff_mul-le}
use borrow.Author.Tests.{ltb-true, ne_eqb}
use lib.IntN.{ℤ, pos}
use lib.ListN.{length, drop, length-append, length-map}
use Rattle.report.specs.Rows.{Place, map_held, map_entry, map_unmapped}
use Rattle.report.specs.Encoding.{held_width, entry_width, unmapped_width, held_row, entry_row, unmapped_row, rows_of, rows_then}
use Rattle.report.proofs.RowsOf.{cut_exit, rows_length}
use Rattle.report.proofs.Widths.{held-width, entry-width, unmapped-width}
use Rattle.settlement.specs.Shapes.{Reading}
use Rattle.settlement.specs.Values.{Lent}
use Rattle.settlement.specs.Settlement.{reading}
use Rattle.settlement.specs.TableDoc.{shows, table_doc}
use Rattle.settlement.specs.Shown.{map_reading}
use Rattle.settlement.specs.Outcome.{Room, refused, read, call_refusal, unless, outcome, shown}
use Rattle.settlement.specs.Result.{result_of, answer_row}
use Rattle.settlement.proofs.Results.{refuses_as, numbered, call_numbered}
use Rattle.decimals.specs.Decimal.{signed, natural}
use Rattle.fields.specs.Line.{field}
use Rattle.fields.specs.Columns.{fields}
use Rattle.fields.specs.Columns as columns
use Rattle.printed.specs.Printed.{held_line, entry_line, unmapped_line, reading_lines, outcome_lines, printed}
use Rattle.printed.specs.Numbers.{row_count, rows_in, held_numbers, entry_numbers, unmapped_numbers, accepted_line, refused_line, later_lines, row_lines, accepted_lines, lines_of, exit_lines}
use Rattle.printed.proofs.RowLines.{held-line, entry-line, unmapped-line}
use Rattle.printed.proofs.TermLines.{row_parts, group-lines, term-lines}

-- rows that were put are all in the list
module _ {A : Type 0} (row : A → List ℤ) (w : ℕ) (positive : 0 < w) (wide : (a : A) → length (row a) ≡ w) (l : List A) (before : List ℤ) where
  all_there : row_count w (pos (length l)) (rows_then (rows_of row l) before) ≡ length l
  unfolding row_count natural
  all_there =
      let n = length (rows_then (rows_of row l) before) in
      let k : length l * w ≤ n = omega (arith, rows_length row w wide l, length-append (rows_of row l) (drop (length (rows_of row l)) before)) in
      let d : length l ≤ n / w = (le-div_iff_mul-le positive).1 k in
      omega arith

  -- and the lines made of them are theirs
  row-lines : {B : Type 0} (f : List ℤ → List ℕ) (m : A → B) (g : B → List ℕ) → ((a : A) → f (row a) ≡ g (m a)) → map f (rows_in w (pos (length l)) (rows_then (rows_of row l) before)) ≡ map g (map m l)
  row-lines f m g same = ap (map f) (cut_exit row w wide l before all_there refl) ∙ each l
    where
      each : (l : List A) → map f (map row l) ≡ map g (map m l)
      each [] = refl
      each (a ∷ l) = rw (same a, each l)

-- lists of lines, one after another
grouped : {A : Type 0} (a b c d e : List A) → (a ++ b) ++ (c ++ (d ++ e)) ≡ a ++ b ++ c ++ d ++ e
grouped a b c d e = simp append_assoc

joined :
    {A : Type 0} {a a' : A} {b b' c c' d d' e e' f f' : List A} → a ≡ a' → b ≡ b' → c ≡ c' → d ≡ d' → e ≡ e' → f ≡ f' →
    ((a ∷ b) ++ c) ++ (d ++ (e ++ f)) ≡ (a' ∷ b') ++ c' ++ d' ++ e' ++ f'
joined {a' = a'} {b' = b'} {c' = c'} {d' = d'} {e' = e'} {f' = f'} p q r s t u = rw (p, q, r, s, t, u) (grouped (a' ∷ b') c' d' e' f')

-- the lists at entry are any
module _ (x : List ℕ) (h e u : List ℤ) where
  lines_read : (r : Reading Place) → exit_lines x h e u (read r) ≡ outcome_lines x (read r)
  unfolding lines_of accepted_lines row_lines later_lines accepted_line outcome_lines reading_lines answer_row result_of shown map_reading fields columns.shown natural signed field
  lines_read r =
      let n = pos (length r.held) in
      let m = pos (length r.entries) in
      let k = pos (length r.unmapped) in
      ap (λ (t : List ℤ). lines_of x (pos 0 ∷ pos 0 ∷ n ∷ m ∷ k ∷ t) (rows_then (rows_of held_row r.held) h) (rows_then (rows_of entry_row r.entries) e) (rows_then (rows_of unmapped_row r.unmapped) u)) (row_parts r.terms) ∙
      joined
      (rw (length-map r.held (map_held (shows x)), length-map r.entries (map_entry (shows x)), length-map r.unmapped (map_unmapped (shows x))))
      (group-lines x (pos 0) (pos 0) n m k r.terms)
      (term-lines x (pos 0) (pos 0) n m k r.terms)
      (row-lines held_row held_width (omega arith) held-width r.held h (held_numbers x) (map_held (shows x)) held_line (held-line x))
      (row-lines entry_row entry_width (omega arith) entry-width r.entries e (entry_numbers x) (map_entry (shows x)) entry_line (entry-line x))
      (row-lines unmapped_row unmapped_width (omega arith) unmapped-width r.unmapped u (unmapped_numbers x) (map_unmapped (shows x)) unmapped_line (unmapped-line x))

  lines_refused : (n r : ℕ) → 0 < n → exit_lines x h e u (refused n r) ≡ outcome_lines x (refused n r)
  unfolding lines_of refused_line outcome_lines answer_row result_of fields columns.shown natural signed field
  lines_refused n r p = rw (ne_eqb n 0 (λ e. omega arith))

  -- the lines of every call
  pub lines_exit : (L : Lent) (m : Room) (t : List ℕ) → exit_lines x h e u (outcome L m t x) ≡ outcome_lines x (outcome L m t x)
  unfolding outcome refuses_as numbered
  lines_exit L m t = go (call_refusal L m t x) (call_numbered L m t x)
    where
      go : (o : Option (ℕ × ℕ)) → numbered o ≡ true → exit_lines x h e u (unless o (reading L (table_doc t x) 0)) ≡ outcome_lines x (unless o (reading L (table_doc t x) 0))
      go none k = lines_read (reading L (table_doc t x) 0)
      go (some n) k = lines_refused n.0 n.1 (ltb-true 0 n.0 k)

  -- one after the other they are the printed reading
  pub printed_exit : (L : Lent) (m : Room) (t : List ℕ) → flatten (exit_lines x h e u (outcome L m t x)) ≡ printed x (outcome L m t x)
  unfolding printed
  printed_exit L m t = ap flatten (lines_exit L m t)
