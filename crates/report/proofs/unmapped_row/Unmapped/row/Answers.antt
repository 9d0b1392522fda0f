use Rattle.report.specs.Encoding.{unmapped_row}
use Rattle.report.proofs.Cells.{cell, cell-of}
use Rattle.report.proofs.unmapped_row.Unmapped.row.Goals as goal

pub returns : goal.returns
unfolding unmapped_row
returns c = search (cell-of, cell)
