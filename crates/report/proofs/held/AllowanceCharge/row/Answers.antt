use Rattle.std.proofs.Common.{rules, tests}
use Rattle.report.specs.Encoding.{held_row}
use Rattle.report.proofs.held.AllowanceCharge.row.Goals as goal
use Rattle.report.proofs.held.AllowanceCharge.row.Goals.{then-charge, else-charge}

pub returns : goal.returns
unfolding held_row
returns c =
    elim c.if-charge.branch [
      | then-charge w ↦ search (tests, rules)
      | else-charge w ↦ search (tests, rules)
    ]
