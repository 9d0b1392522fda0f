use native.Mathlib.Omega.{arith}
use Rattle.report.specs.Encoding.{entry_width, unmapped_width}
use Rattle.fields.specs.Columns.{cell}
use Rattle.printed.proofs.Counting.{in_list}
use Rattle.printed.proofs.Dispatch.{later_entry, later_unmapped, later_none}
use Rattle.printed.proofs.line.Left.put_later_row.Goals as goal

pub row_at-requires : goal.row_at-requires
row_at-requires c =
    omega (arith, in_list entry_width (cell c.args.self.now.answer.now 3) c.args.self.now.entries.now)

pub returns-then-j-e : goal.returns-then-j-e
returns-then-j-e c =
    later_entry _ _ _ _ c.row_count-e.ensures _ c.if-j-e.true (rw c.row_at.ensures at c.put_entry.ensures)

pub row_at-requires-then-j-e-2 : goal.row_at-requires-then-j-e-2
row_at-requires-then-j-e-2 c =
    omega (arith, in_list unmapped_width (cell c.args.self.now.answer.now 4) c.args.self.now.unmapped.now)

pub returns-then-j-e-2 : goal.returns-then-j-e-2
returns-then-j-e-2 c =
    later_unmapped _ _ _ _ c.row_count-e.ensures _ c.if-j-e.false c.row_count-u.ensures c.if-j-e-2.true (rw c.row_at-then-j-e-2.ensures at c.put_unmapped.ensures)

pub returns-else-j-e-2 : goal.returns-else-j-e-2
returns-else-j-e-2 c = later_none _ _ _ _ c.row_count-e.ensures _ c.if-j-e.false c.row_count-u.ensures _ c.if-j-e-2.false
