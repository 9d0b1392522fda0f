use native.Mathlib.Omega.{arith}
use Rattle.report.specs.Encoding.{held_width, entry_width, unmapped_width}
use Rattle.fields.specs.Columns.{cell}
use Rattle.printed.specs.Numbers.{line_count}
use Rattle.printed.proofs.Counting.{in_list}
use Rattle.printed.proofs.count.line_count.Goals as goal

pub returns-then-is_refused : goal.returns-then-is_refused
unfolding line_count
returns-then-is_refused c = simp (← c.is_refused.ensures, c.if-is_refused.true)

pub overflow_add-result : goal.overflow_add-result
overflow_add-result c =
    omega (arith, in_list held_width (cell c.args.answer.now 2) c.args.held.now)

pub overflow_add-result-2 : goal.overflow_add-result-2
overflow_add-result-2 c =
    omega (arith, in_list held_width (cell c.args.answer.now 2) c.args.held.now, in_list entry_width (cell c.args.answer.now 3) c.args.entries.now)

pub overflow_add-result-3 : goal.overflow_add-result-3
overflow_add-result-3 c =
    omega (arith, in_list held_width (cell c.args.answer.now 2) c.args.held.now, in_list entry_width (cell c.args.answer.now 3) c.args.entries.now, in_list unmapped_width (cell c.args.answer.now 4) c.args.unmapped.now)

pub returns : goal.returns
unfolding line_count
returns c = simp (c.row_count-u.ensures, c.row_count-e.ensures, c.row_count-h.ensures, ← c.is_refused.ensures, c.if-is_refused.false)
