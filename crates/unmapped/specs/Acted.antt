-- What a function of the reader did to the lent rows, against what is defined to be made.
use Rattle.std.specs.Prelude.{◌≡◌, List, ℕ}
use Rattle.report.specs.Rows.{Place, Unmapped}
use Rattle.report.specs.HeldRows.{Holds}
use Rattle.report.specs.declared.held.HeldRows.{HeldRows}
use Rattle.settlement.specs.Shapes.{Act}
use Rattle.values.specs.Told.{Said}
use Rattle.values.specs.declared.saying.Entries.{Entries}
use Rattle.unmapped.specs.Noting.{notings, Noted}
use Rattle.unmapped.specs.declared.note.UnmappedRows.{UnmappedRows}

-- the rows are the same lent list, among which these unmapped elements were noted
pub record Notes (x : List ℕ) (us : List (Unmapped Place)) (before after : UnmappedRows) : Type 0 where
  pub same : after.list.ghost_name ≡ before.list.ghost_name
  pub rows : Noted (notings x before.list.now before.count us) after.list.now after.count

-- the state is the next one, and what is held, said and not mapped was put among the rows, each behind what they had
pub record Acted {S : Type 0} (a : Act Place S) (x : List ℕ) (next : S) (h h' : HeldRows) (e e' : Entries) (u u' : UnmappedRows) : Type 0 where
  pub same : next ≡ a.next
  pub held : Holds a.holds h h'
  pub said : Said a.says e e'
  pub noted : Notes x a.strays u u'
