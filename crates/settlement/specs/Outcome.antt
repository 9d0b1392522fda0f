-- What a call answers: one of the ten refusals, or a reading (document 01, "Where each refusal is checked").
use Rattle.std.specs.Prelude.{Bool, ◌||◌, List, ℕ, ◌*◌, ltb}
use Rattle.std.proofs.Math.Option.{Option, none, some}
use Rattle.table.specs.Table.{records}
use Rattle.refusals.specs.Refusals.{refuse, at_root, refusal}
use Rattle.report.specs.Encoding.{held_room, entry_room, unmapped_room}
use Rattle.report.specs.Rows.{Place}
use Rattle.settlement.specs.Shapes.{Reading}
use Rattle.settlement.specs.Values.{Lent}
use Rattle.settlement.specs.Settlement.{reading}
use Rattle.settlement.specs.TableDoc.{shows, table_doc}
use Rattle.settlement.specs.Document.{or_else}
use Rattle.settlement.specs.Shown.{map_reading}

-- the room of the three lent lists, in numbers
pub record Room : Type 0 where
  pub held : ℕ
  pub entries : ℕ
  pub unmapped : ℕ

-- what refusal 10 asks for: a held row, four entries and an unmapped row for each record of a table
abbrev pub room_for : ℕ → Room
room_for n = record { held = held_room * n; entries = entry_room * n; unmapped = unmapped_room * n }

-- a refusal with its number and record, or a reading
pub data Outcome : Type 0 where
  refused : (number place : ℕ) → Outcome
  read : Reading Place → Outcome

-- 1: mode above 1
unfoldable pub unknown_mode : Lent → Bool
unknown_mode L = ltb 1 L.mode

-- 2: rules number above 4,095
unfoldable pub unknown_rules : Lent → Bool
unknown_rules L = ltb 4095 L.rules

-- 10: less room than that
unfoldable pub cramped : Room → List ℕ → Bool
cramped m t = let n = room_for (records t) in ltb m.held n.held || (ltb m.entries n.entries || ltb m.unmapped n.unmapped)

-- the first refusal of all ten, with its record
unfoldable pub call_refusal : Lent → Room → List ℕ → List ℕ → Option (ℕ × ℕ)
call_refusal L m t x = refuse 1 (at_root (unknown_mode L)) (refuse 2 (at_root (unknown_rules L)) (or_else (refusal t x) (refuse 10 (at_root (cramped m t)) none)))

-- a reading counts where nothing is refused
abbrev pub unless : Option (ℕ × ℕ) → Reading Place → Outcome
unless none r = read r
unless (some n) r = refused n.0 n.1

-- what a call answers
unfoldable pub outcome : Lent → Room → List ℕ → List ℕ → Outcome
outcome L m t x = unless (call_refusal L m t x) (reading L (table_doc t x) 0)

-- what the places of a reading show in the text
unfoldable pub shown : List ℕ → Reading Place → Reading (List ℕ)
shown x r = map_reading (shows x) r
