use Rattle.amounts.specs.Amounts.{missing_amount}
use Rattle.amounts.proofs.amounts.absent.Goals as goal

pub returns : goal.returns
unfolding missing_amount
returns c = record { same = c.zero.ensures; said = rw c.moved-site.ensures at c.missing.ensures }
