use Rattle.amounts.specs.Amounts.{amount_found}
use Rattle.values.proofs.Telling.{told_silent}
use Rattle.amounts.proofs.amounts.amount.Goals as goal

pub returns-in_err-e : goal.returns-in_err-e
unfolding amount_found
returns-in_err-e c = rw (c.in_err-e.was, c.from_residual.ensures) (told_silent _)

pub returns : goal.returns
unfolding amount_found
returns c = rw (c.in_ok-e.was, ← c.hear.ensures _) c.tell.ensures
