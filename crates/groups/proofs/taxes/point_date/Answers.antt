use Rattle.groups.specs.Taxes.{point_date_found}
use Rattle.values.proofs.Telling.{told_silent}
use Rattle.groups.proofs.taxes.point_date.Goals as goal

pub returns-in-Some : goal.returns-in-Some
unfolding point_date_found
returns-in-Some c = rw c.in-Some.is (told_silent _)

pub returns-in-None : goal.returns-in-None
unfolding point_date_found
returns-in-None c = rw c.in-None.is c.date.ensures
