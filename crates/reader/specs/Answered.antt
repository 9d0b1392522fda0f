-- What a call of the reader did, against what it is defined to answer (document 01, "Rows" and "Where each refusal is checked").
use Rattle.std.specs.Prelude.{◌≡◌, Bool, false, List, ℕ, ℤ, length}
use Rattle.report.specs.Encoding.{rows_then}
use Rattle.settlement.specs.Values.{Lent}
use Rattle.std.proofs.Math.Option.{none}
use Rattle.refusals.specs.Refusals.{refusal}
use Rattle.report.specs.declared.held.HeldRows.{HeldRows}
use Rattle.settlement.specs.Outcome.{Room, Outcome, cramped}
use Rattle.element.specs.declared.document.Document.{Document}
use Rattle.values.specs.declared.saying.Entries.{Entries}
use Rattle.unmapped.specs.declared.note.UnmappedRows.{UnmappedRows}
use Rattle.reader.specs.Spelled.{Spelled}
use Rattle.settlement.specs.Result.{result_of}
use Rattle.reader.specs.Answers.{Answer}

-- what is lent beside a table, by its numbers
abbrev pub lent_with : ℕ → ℕ → List ℕ → Bool → Lent
lent_with mode rules currency extension = record { mode = mode; rules = rules; currency = currency; extension = extension }

-- the room of the three lent lists
abbrev pub room_of : List ℤ → List ℤ → List ℤ → Room
room_of held entries unmapped = record { held = length held; entries = length entries; unmapped = length unmapped }

-- answer, terms and counts are those of the outcome, and so are the rows at the front of each list; a refusal has no rows, so that all three lists are as they were
pub record Answered (o : Outcome) (a : Answer) (held held' entries entries' unmapped unmapped' : List ℤ) : Type 0 where
  pub refusal : a.refusal ≡ (result_of o).number
  pub place : a.place ≡ (result_of o).place
  pub terms : a.terms ≡ (result_of o).terms
  pub held_count : a.held ≡ (result_of o).held_count
  pub entry_count : a.entries ≡ (result_of o).entry_count
  pub unmapped_count : a.unmapped ≡ (result_of o).unmapped_count
  pub held_rows : held' ≡ rows_then (result_of o).held held
  pub entry_rows : entries' ≡ rows_then (result_of o).entries entries
  pub unmapped_rows : unmapped' ≡ rows_then (result_of o).unmapped unmapped

-- an accepted table, its links, and rows with room from their fronts on
pub record Readable (d : Document) (h : HeldRows) (e : Entries) (u : UnmappedRows) : Type 0 where
  pub accepted : refusal d.table.records.now d.table.text.now ≡ none
  pub room : cramped (room_of h.list.now e.list.now u.list.now) d.table.records.now ≡ false
  pub spelled : Spelled d.table.records.now d.table.text.now d.links.now
  pub first : (h.at ≡ 0) × (e.at ≡ 0) × (u.count ≡ 0)

-- the same, of rows that are the same lent lists
pub record AnsweredRows (o : Outcome) (a : Answer) (h h' : HeldRows) (e e' : Entries) (u u' : UnmappedRows) : Type 0 where
  pub held : h'.list.ghost_name ≡ h.list.ghost_name
  pub entries : e'.list.ghost_name ≡ e.list.ghost_name
  pub unmapped : u'.list.ghost_name ≡ u.list.ghost_name
  pub answered : Answered o a h.list.now h'.list.now e.list.now e'.list.now u.list.now u'.list.now
