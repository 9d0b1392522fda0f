use Rattle.payment.proofs.Walking.{walked_still}
use Rattle.settlement.specs.Payments.{part}
use Rattle.payment.proofs.instructions.type_code.Goals as goal

pub returns : goal.returns
unfolding part
returns c = walked_still (rw c.first_code.ensures) _
