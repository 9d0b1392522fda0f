-- Two calls of the reader, compared by the numbers that they leave in the lent lists (document 01, "Rows": by what spans show, absent apart from empty, not by their places).
use Rattle.std.specs.Prelude.{◌≡◌, ℕ, ◌*◌, ◌≤◌, eqb, ℤ, pos, negsuc, get_or, take, drop}
use mathlib.Core.List.{List, [], ◌∷◌, ◌++◌, map, Perm}
use Rattle.text.specs.Span.{clipped}
use Rattle.table.specs.Table.{records}
use Rattle.report.specs.Columns.{Column, text, plain, amount, percent, date, width, entry_columns, unmapped_columns, held_columns}
use Rattle.report.specs.Encoding.{held_width, entry_width, unmapped_width, record_entries, cut_rows}
use Rattle.settlement.specs.Shapes.{Terms}
use Rattle.settlement.specs.Values.{Lent}
use Rattle.settlement.specs.TableDoc.{shows}
use Rattle.settlement.specs.Shown.{map_terms}
use Rattle.settlement.specs.Outcome.{outcome}
use Rattle.settlement.specs.Alike.{keep}
use Rattle.reader.specs.Answered.{room_of, Answered}
use Rattle.reader.specs.Answers.{Answer}

-- what a row shows: a number itself; of a text nothing, where it is absent, or its bytes
pub data Cell : Type 0 where
  number : ℤ → Cell
  absent : Cell
  bytes : List ℕ → Cell

-- absent text is -1, 0, and so is any with a number below 0; any other shows its bytes
unfoldable pub text_cell : List ℕ → ℤ → ℤ → Cell
text_cell x (pos s) (pos n) = bytes (clipped x s n)
text_cell x (pos s) (negsuc n) = absent
text_cell x (negsuc s) n = absent

-- what the numbers of a column show: a text its bytes, half a text and any other its numbers
unfoldable pub column_cells : List ℕ → Column → List ℤ → List Cell
column_cells x text [] = []
column_cells x text (a ∷ []) = number a ∷ []
column_cells x text (a ∷ b ∷ v) = text_cell x a b ∷ map number v
column_cells x plain v = map number v
column_cells x amount v = map number v
column_cells x percent v = map number v
column_cells x date v = map number v

-- a row through a text, column by column; behind the last column its numbers
unfoldable pub shown_row : List Column → List ℕ → List ℤ → List Cell
shown_row [] x v = map number v
shown_row (c ∷ cs) x v = column_cells x c (take (width c) v) ++ shown_row cs x (drop (width c) v)

-- a number of a row as a count; one below 0 counts nothing
abbrev pub natural : ℤ → ℕ
natural (pos n) = n
natural (negsuc n) = 0

-- a held row's first number is its kind
abbrev pub kind_of : List ℤ → ℕ
kind_of v = natural (get_or v 0 (pos 0))

-- a held row through a text, by its kind
abbrev pub shown_held_row : List ℕ → List ℤ → List Cell
shown_held_row x v = shown_row (held_columns (kind_of v)) x v

-- what a call leaves: its text, how many rows of each list it answers, and the three lists at exit
pub record Exit : Type 0 where
  pub text : List ℕ
  pub held_count : ℕ
  pub entry_count : ℕ
  pub unmapped_count : ℕ
  pub held : List ℤ
  pub entries : List ℤ
  pub unmapped : List ℤ

-- the held rows in its list, as many as it answers
unfoldable pub held_in : Exit → List (List ℤ)
held_in c = cut_rows held_width c.held_count c.held

-- as its text shows them
unfoldable pub shown_held : Exit → List (List Cell)
shown_held c = map (shown_held_row c.text) (held_in c)

-- those of one kind
unfoldable pub shown_of_kind : ℕ → Exit → List (List Cell)
shown_of_kind j c = map (shown_held_row c.text) (keep (λ v. eqb (kind_of v) j) (held_in c))

-- the entries
unfoldable pub shown_entries : Exit → List (List Cell)
shown_entries c = map (shown_row entry_columns c.text) (cut_rows entry_width c.entry_count c.entries)

-- the unmapped names
unfoldable pub shown_unmapped : Exit → List (List Cell)
shown_unmapped c = map (shown_row unmapped_columns c.text) (cut_rows unmapped_width c.unmapped_count c.unmapped)

-- rows that show the same but for their order: held rows of each kind and unmapped names in order, entries in any
pub record AlikeRows (c d : Exit) : Type 0 where
  pub held : (j : ℕ) → shown_of_kind j c ≡ shown_of_kind j d
  pub unmapped : shown_unmapped c ≡ shown_unmapped d
  pub entries : Perm (shown_entries c) (shown_entries d)

-- rows that show the same in the same order
pub record SameRows (c d : Exit) : Type 0 where
  pub held : shown_held c ≡ shown_held d
  pub unmapped : shown_unmapped c ≡ shown_unmapped d
  pub entries : shown_entries c ≡ shown_entries d

-- a held row, four entries and an unmapped row for each record of a table, at most
pub record Afforded (t : List ℕ) (c : Exit) : Type 0 where
  pub held : c.held_count ≤ records t
  pub entries : c.entry_count ≤ record_entries * records t
  pub unmapped : c.unmapped_count ≤ records t

-- a call: table and text, the three lists at entry, the answer, and the three lists at exit
pub record Call : Type 0 where
  pub table : List ℕ
  pub text : List ℕ
  pub held : List ℤ
  pub entries : List ℤ
  pub unmapped : List ℤ
  pub answer : Answer
  pub held' : List ℤ
  pub entries' : List ℤ
  pub unmapped' : List ℤ

-- it did what `read` promises, the lists at entry being any
abbrev pub Promised : Lent → Call → Type 0
Promised L c = Answered (outcome L (room_of c.held c.entries c.unmapped) c.table c.text) c.answer c.held c.held' c.entries c.entries' c.unmapped c.unmapped'

-- what it leaves
abbrev pub exit_of : Call → Exit
exit_of c =
    record {
      text = c.text;
      held_count = c.answer.held;
      entry_count = c.answer.entries;
      unmapped_count = c.answer.unmapped;
      held = c.held';
      entries = c.entries';
      unmapped = c.unmapped';
    }

-- the terms of its answer, as its text shows them
unfoldable pub shown_terms : Call → Terms (List ℕ)
shown_terms c = map_terms (shows c.text) c.answer.terms

-- both were read, their terms show the same, and their rows do but for the order
pub record AlikeCalls (c d : Call) : Type 0 where
  pub left : c.answer.refusal ≡ 0
  pub right : d.answer.refusal ≡ 0
  pub terms : shown_terms c ≡ shown_terms d
  pub rows : AlikeRows (exit_of c) (exit_of d)

-- both were read, and their terms and their rows in order show the same
pub record SameCalls (c d : Call) : Type 0 where
  pub left : c.answer.refusal ≡ 0
  pub right : d.answer.refusal ≡ 0
  pub terms : shown_terms c ≡ shown_terms d
  pub rows : SameRows (exit_of c) (exit_of d)
