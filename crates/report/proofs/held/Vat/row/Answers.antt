use Rattle.std.proofs.Common.{rules, tests}
use Rattle.report.specs.Encoding.{held_row}
use Rattle.report.proofs.held.Vat.row.Goals as goal

pub returns : goal.returns
unfolding held_row
returns c = search (tests, rules)
