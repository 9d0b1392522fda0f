-- Readings that have room (document 01, refusal 10): no more rows than the records of the table pay for.
use Rattle.std.specs.Prelude.{List, ℕ, ◌*◌, ◌≤◌, length}
use Rattle.table.specs.Table.{records}
use Rattle.report.specs.Encoding.{held_width, entry_width, unmapped_width, record_entries}
use Rattle.settlement.specs.Shapes.{Reading}
use Rattle.settlement.specs.Outcome.{Room}

-- a held row, four entries and an unmapped name for each record, at most
pub record Within {X : Type 0} (t : List ℕ) (r : Reading X) : Type 0 where
  pub held : length r.held ≤ records t
  pub entries : length r.entries ≤ record_entries * records t
  pub unmapped : length r.unmapped ≤ records t

-- the numbers of all rows fit into the three lent lists
pub record Fits {X : Type 0} (m : Room) (r : Reading X) : Type 0 where
  pub held : held_width * length r.held ≤ m.held
  pub entries : entry_width * length r.entries ≤ m.entries
  pub unmapped : unmapped_width * length r.unmapped ≤ m.unmapped
