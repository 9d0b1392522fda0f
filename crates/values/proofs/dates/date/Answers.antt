use Rattle.values.proofs.Telling.{told_silent}
use Rattle.values.specs.Sites.{date_of}
use Rattle.values.proofs.dates.date.Goals as goal

pub returns-in_err-w : goal.returns-in_err-w
unfolding date_of
returns-in_err-w c = rw (c.in_err-w.was, c.from_residual.ensures) (told_silent _)

pub returns : goal.returns
unfolding date_of
returns c = rw c.in_ok-w.was c.date_in.ensures
