use Rattle.report.specs.Encoding.{held_row}
use Rattle.report.proofs.Cells.{cell, literal}
use Rattle.report.proofs.held.Preceding.row.Goals as goal

pub returns : goal.returns
unfolding held_row
returns c = search (cell, literal) depth 20
