use Rattle.report.specs.Encoding.{entry_row}
use Rattle.report.proofs.Cells.{cell, cell-of}
use Rattle.report.proofs.entry.Entry.row.Goals as goal

pub returns : goal.returns
unfolding entry_row
returns c = search (cell-of, cell) depth 20
