use native.Mathlib.Omega.{arith}
use Rattle.report.specs.Encoding.{held_width}
use Rattle.fields.specs.Columns.{cell}
use Rattle.printed.proofs.Counting.{in_list}
use Rattle.printed.proofs.Dispatch.{any_held, any_later}
use Rattle.printed.proofs.line.Left.put_any_row.Goals as goal

pub row_at-requires : goal.row_at-requires
row_at-requires c =
    omega (arith, in_list held_width (cell c.args.self.now.answer.now 2) c.args.self.now.held.now)

pub returns-then-j-h : goal.returns-then-j-h
returns-then-j-h c =
    any_held _ _ _ _ _ c.row_count-h.ensures _ c.if-j-h.true (rw c.row_at.ensures at c.put_held.ensures)

pub returns : goal.returns
returns c =
    any_later _ _ _ _ _ c.row_count-h.ensures _ c.if-j-h.false c.put_later_row.ensures
