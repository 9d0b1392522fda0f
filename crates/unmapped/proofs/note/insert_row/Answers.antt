use mathlib.Core.Path.{refl}
use Rattle.unmapped.specs.Noting.{inserted}
use Rattle.unmapped.proofs.Moves.{row_before}
use Rattle.unmapped.proofs.note.insert_row.Goals as goal

pub returns : goal.returns
unfolding inserted
returns c = record { list = row_before _ _ _ c.move_up.ensures (rw c.row.ensures at c.put_row.ensures); count = refl }
