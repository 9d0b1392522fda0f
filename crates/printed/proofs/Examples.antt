-- The example of document 01, "The printed reading".
use mathlib.Core.Path.{◌≡◌, refl, ap, ◌∙◌}
use mathlib.Core.Bool.{Bool, true, ◌&&◌}
use mathlib.Core.List.{List, [], ◌∷◌, ◌++◌, flatten}
use Prim.Native.Nat.{ℕ, zero, suc, ◌^◌, ◌≤◌}
use native.Mathlib.Omega.{arith}
use borrow.Author.Tests.{ltb-true}
use lib.Dec.{ltb}
use lib.IntN.{ℤ}
use lib.ListN.{length, get_or, take}
use lib.Signed.{mag}
use Rattle.text.specs.Utf8.{encode, bytes}
use Rattle.text.proofs.Bools.{both}
use Rattle.report.specs.Encoding.{rows_then}
use Rattle.report.specs.Placed.{Placed}
use Rattle.report.specs.Rows.{Place}
use Rattle.settlement.specs.Shapes.{Reading}
use Rattle.settlement.specs.Values.{Lent}
use Rattle.settlement.specs.Settlement.{reading}
use Rattle.settlement.specs.Outcome.{Room, read, outcome, shown}
use Rattle.settlement.specs.Result.{Result, result_of, answer_row}
use Rattle.settlement.specs.Tree.{Tree, tree_doc, tree_of}
use Rattle.settlement.specs.TableDoc.{table_doc}
use Rattle.settlement.specs.Edges.{lent}
use Rattle.settlement.specs.Examples.{account_and_foo, example_table, example_text, example_room}
use Rattle.settlement.proofs.AnyOrder.{outcome_read, shown_tree}
use Rattle.settlement.proofs.Examples.{account-and-foo, example_read, example_numbers, example_tree}
use Rattle.decimals.specs.Decimal.{spelled, decimal, signed}
use Rattle.fields.specs.Line.{printable, field, tabbed, line}
use Rattle.fields.specs.Line as line
use Rattle.printed.specs.Numbers.{Wide, line_room, exit_lines}
use Rattle.printed.specs.Printed.{group_lines, term_lines, held_line, entry_line, unmapped_line, reading_lines, outcome_lines, printed}
use Rattle.printed.proofs.Calls.{call_line}

-- what a call that reads prints is the reading of its table's tree
pub read_prints : (L : Lent) (m : Room) (t x : List ℕ) (r : Reading Place) → outcome L m t x ≡ read r → printed x (outcome L m t x) ≡ flatten (reading_lines (reading L tree_doc (tree_of t x 0)))
unfolding printed outcome_lines
read_prints L m t x r e = ap (printed x) e ∙ ap (λ (q : Reading (List ℕ)). flatten (reading_lines q)) (ap (shown x) (outcome_read L m t x r e) ∙ shown_tree L t x)

abbrev pub nine_lines : List ℕ
nine_lines =
    bytes "accepted\t1\t0\t1\n" ++
    bytes "group\tBG-16\n" ++
    bytes "term\tBT-5\tEUR\n" ++
    bytes "term\tBT-106\t0\n" ++
    bytes "term\tBT-109\t0\n" ++
    bytes "term\tBT-112\t0\n" ++
    bytes "term\tBT-115\t0\n" ++
    bytes "held\t1\tDE1\t-\t-\n" ++
    bytes "unmapped\tApplicableHeaderTradeSettlement/Foo\n"

nine-lines : flatten (reading_lines (reading lent tree_doc account_and_foo)) ≡ nine_lines
unfolding reading_lines group_lines term_lines held_line entry_line unmapped_line line tabbed field printable line.printed signed decimal spelled bytes encode flatten
nine-lines = ap (λ (r : Reading (List ℕ)). flatten (reading_lines r)) account-and-foo ∙ refl

-- every call that reads a table of that tree prints those
pub tree_prints : (m : Room) (t x : List ℕ) (r : Reading Place) → outcome lent m t x ≡ read r → tree_of t x 0 ≡ account_and_foo → printed x (outcome lent m t x) ≡ nine_lines
tree_prints m t x r e h = read_prints lent m t x r e ∙ ap (λ (s : Tree). flatten (reading_lines (reading lent tree_doc s))) h ∙ nine-lines

-- and so does the call on the table of the example
pub example_prints : printed example_text (outcome lent example_room example_table example_text) ≡ nine_lines
example_prints = tree_prints example_room example_table example_text (reading lent (table_doc example_table example_text) 0) example_read example_tree

-- numbers of 64 bits, by a computed test
small : List ℤ → Bool
small [] = true
small (z ∷ l) = ltb (mag z) (2 ^ 63) && small l

small_wide : (l : List ℤ) → small l ≡ true → Wide l
unfolding small
small_wide [] e i = omega arith
small_wide (z ∷ l) e zero = ltb-true (mag z) (2 ^ 63) (both (ltb (mag z) (2 ^ 63)) (small l) e).0
small_wide (z ∷ l) e (suc i) = small_wide l (both (ltb (mag z) (2 ^ 63)) (small l) e).1 i

-- what the call on the example's table answers
abbrev answered : Result
answered = result_of (outcome lent example_room example_table example_text)

-- each of its lines is put whole, where the lists were empty
pub example_line : (k : ℕ) {out out' : List ℕ} {r : ℕ} → line_room (length example_text) ≤ length out →
    Placed out 0 (get_or (exit_lines example_text [] [] [] (outcome lent example_room example_table example_text)) k []) out' r → take r out' ≡ get_or (outcome_lines example_text (outcome lent example_room example_table example_text)) k []
unfolding small
example_line =
    call_line lent example_room example_table example_text [] [] []
    (small_wide (answer_row answered) (ap small example_numbers.answer))
    (small_wide (rows_then answered.held []) (ap (λ (l : List ℤ). small (rows_then l [])) example_numbers.held))
    (small_wide (rows_then answered.entries []) (ap (λ (l : List ℤ). small (rows_then l [])) example_numbers.entries))
    (small_wide (rows_then answered.unmapped []) (ap (λ (l : List ℤ). small (rows_then l [])) example_numbers.unmapped))
