use Rattle.amounts.specs.Amounts.{required_found}
use Rattle.amounts.proofs.amounts.required_amount.Goals as goal

pub returns-in-None : goal.returns-in-None
unfolding required_found
returns-in-None c = rw c.in-None.is c.absent.ensures

pub returns-in-Some : goal.returns-in-Some
returns-in-Some c = rw c.in-Some.is c.required_of.ensures
