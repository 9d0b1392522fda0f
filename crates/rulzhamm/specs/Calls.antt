-- Two calls of a host, compared by the numbers that they leave (document 01, "Rows": by what spans show, absent apart from empty, not by their places).
use Rattle.std.specs.Prelude.{◌≡◌, List, [], ◌∷◌, ◌++◌, ℕ, ◌*◌, ◌≤◌, ℤ, pos, get_or}
use Rattle.table.specs.Table.{records}
use Rattle.report.specs.Columns.{Column, text, plain, amount, date}
use Rattle.report.specs.Encoding.{record_entries}
use Rattle.settlement.specs.Values.{Lent}
use Rattle.settlement.specs.Outcome.{outcome}
use Rattle.reader.specs.Answered.{room_of}
use Rattle.reader.specs.Calls.{Cell, shown_row, natural, Exit, AlikeRows, SameRows}
use Rattle.rulzhamm.specs.Called.{Called}

-- the columns of the answer (docs/LAYOUT.md): refusal, record, counts of held rows, entries and unmapped rows
abbrev pub count_columns : List Column
count_columns = plain ∷ plain ∷ plain ∷ plain ∷ plain ∷ []

-- BT-5, BT-6, BT-7, BT-8, BT-9, BT-19, BT-20
abbrev pub plain_columns : List Column
plain_columns = text ∷ text ∷ date ∷ date ∷ date ∷ text ∷ text ∷ []

-- an identifier and its scheme
abbrev pub identifier_columns : List Column
identifier_columns = text ∷ text ∷ []

-- BG-10, BT-59, BT-60, BT-61
abbrev pub payee_columns : List Column
payee_columns = plain ∷ text ∷ identifier_columns ++ identifier_columns

-- BG-14, BT-73, BT-74
abbrev pub period_columns : List Column
period_columns = plain ∷ date ∷ date ∷ []

-- BG-16, BT-81, BT-82, BT-83
abbrev pub payment_columns : List Column
payment_columns = plain ∷ text ∷ text ∷ text ∷ []

-- BG-18, BT-87, BT-88, BG-19, BT-91
abbrev pub means_columns : List Column
means_columns = plain ∷ text ∷ text ∷ plain ∷ text ∷ []

-- BT-89, BT-90
abbrev pub debit_columns : List Column
debit_columns = text ∷ text ∷ []

-- BT-106 to BT-115
abbrev pub totals_columns : List Column
totals_columns = plain ∷ amount ∷ amount ∷ plain ∷ amount ∷ amount ∷ plain ∷ amount ∷ amount ∷ plain ∷ []

-- all of them
abbrev pub answer_columns : List Column
answer_columns = count_columns ++ plain_columns ++ payee_columns ++ period_columns ++ payment_columns ++ means_columns ++ debit_columns ++ totals_columns

-- a call: table and text, the three lists at entry, the answer and the three lists at exit
pub record HostCall : Type 0 where
  pub table : List ℕ
  pub text : List ℕ
  pub held : List ℤ
  pub entries : List ℤ
  pub unmapped : List ℤ
  pub answer : List ℤ
  pub held' : List ℤ
  pub entries' : List ℤ
  pub unmapped' : List ℤ

-- it did what `rulzhamm_read` promises, the lists at entry being any
abbrev pub HostPromised : Lent → HostCall → Type 0
HostPromised L c = Called (outcome L (room_of c.held c.entries c.unmapped) c.table c.text) c.answer c.held c.held' c.entries c.entries' c.unmapped c.unmapped'

-- a number of its answer
abbrev pub number_at : HostCall → ℕ → ℤ
number_at c i = get_or c.answer i (pos 0)

-- what it leaves
abbrev pub host_exit : HostCall → Exit
host_exit c =
    record {
      text = c.text;
      held_count = natural (number_at c 2);
      entry_count = natural (number_at c 3);
      unmapped_count = natural (number_at c 4);
      held = c.held';
      entries = c.entries';
      unmapped = c.unmapped';
    }

-- its answer, as its text shows it
unfoldable pub shown_answer : HostCall → List Cell
shown_answer c = shown_row answer_columns c.text c.answer

-- both were read, their answers show the same, and their rows do but for the order
pub record AlikeHostCalls (c d : HostCall) : Type 0 where
  pub left : number_at c 0 ≡ pos 0
  pub right : number_at d 0 ≡ pos 0
  pub answer : shown_answer c ≡ shown_answer d
  pub rows : AlikeRows (host_exit c) (host_exit d)

-- both were read, and their answers and their rows in order show the same
pub record SameHostCalls (c d : HostCall) : Type 0 where
  pub left : number_at c 0 ≡ pos 0
  pub right : number_at d 0 ≡ pos 0
  pub answer : shown_answer c ≡ shown_answer d
  pub rows : SameRows (host_exit c) (host_exit d)

-- a number from 0 to n
pub record UpTo (n : ℕ) (z : ℤ) : Type 0 where
  pub count : z ≡ pos (natural z)
  pub most : natural z ≤ n

-- its counts: a held row, four entries and an unmapped row for each record of its table, at most
pub record HostAfforded (c : HostCall) : Type 0 where
  pub held : UpTo (records c.table) (number_at c 2)
  pub entries : UpTo (record_entries * records c.table) (number_at c 3)
  pub unmapped : UpTo (records c.table) (number_at c 4)
