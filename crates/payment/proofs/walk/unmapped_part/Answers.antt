use Rattle.payment.proofs.Walking.{walked_noted}
use Rattle.settlement.specs.Payments.{part}
use Rattle.payment.proofs.walk.unmapped_part.Goals as goal

pub returns : goal.returns
unfolding part
returns c = walked_noted (rw c.name.ensures) (rw c.text.ensures at c.note.ensures)
