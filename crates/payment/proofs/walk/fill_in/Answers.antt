use Rattle.settlement.specs.Payments.{paying_start, paid}
use Rattle.payment.proofs.Reaching.{acted}
use Rattle.payment.proofs.walk.fill_in.Goals as goal

pub returns : goal.returns
unfolding paying_start paid
returns c = acted _ _ _ c.read_children-walk.ensures c.put_waiting.ensures
