use mathlib.Core.Path.{refl}
use Rattle.payment.proofs.Walking.{walked_still}
use Rattle.settlement.specs.Payments.{provider_of}
use Rattle.payment.proofs.accounts.without_account.Goals as goal

pub returns-in-None : goal.returns-in-None
unfolding provider_of
returns-in-None c = λ x h u. rw c.in-None.is (walked_still refl x h _ u)

pub returns-in-Some : goal.returns-in-Some
unfolding provider_of
returns-in-Some c = rw c.in-Some.is c.leave_out.ensures
