use mathlib.Core.Path.{refl}
use Rattle.report.proofs.Holding.{holds_one}
use Rattle.report.proofs.held.HeldRows.hold_vat.Goals as goal

pub returns : goal.returns
returns c = holds_one refl (rw c.row.ensures at c.put_row-self.ensures)
