use Rattle.settlement.specs.Payments.{part_of}
use Rattle.payment.proofs.parts.part_of.Goals as goal

pub returns : goal.returns
unfolding part_of
returns c = rw c.name.ensures at (rw c.shown.ensures at c.part_named.ensures)
