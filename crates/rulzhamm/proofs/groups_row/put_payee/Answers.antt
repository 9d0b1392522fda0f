use Rattle.report.proofs.Placing.{placed_then}
use mathlib.Core.Path.{refl}
use Rattle.report.proofs.Cells.{as_row, cell, literal}
use Rattle.rulzhamm.proofs.groups_row.put_payee.Goals as goal

pub returns-in-Some : goal.returns-in-Some
returns-in-Some c =
    rw c.in-Some.is
    (placed_then (as_row _ _ (literal (cell c.text_start.type_inv c.text_start.ensures (cell c.text_length.type_inv c.text_length.ensures refl))) c.put_row-at.ensures)
    (placed_then (rw c.identifier_cells.ensures at c.put_row-at-in-Some.ensures) (rw c.identifier_cells-in-Some.ensures at c.put_row-in-Some.ensures)))
