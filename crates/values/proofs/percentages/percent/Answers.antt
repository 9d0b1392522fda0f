use Rattle.values.specs.Sites.{percent_in}
use Rattle.values.proofs.Telling.{told_silent}
use Rattle.values.proofs.percentages.percent.Goals as goal

pub returns-in-None : goal.returns-in-None
unfolding percent_in
returns-in-None c = rw c.in-None.is (told_silent _)

pub returns-in-Some : goal.returns-in-Some
unfolding percent_in
returns-in-Some c = rw c.in-Some.is c.parsed.ensures
