use Rattle.groups.specs.Taxes.{fresh_code_of, point_code_in}
use Rattle.values.proofs.Telling.{told_silent}
use Rattle.groups.proofs.taxes.point_code.Goals as goal

pub returns-in-None : goal.returns-in-None
unfolding point_code_in
returns-in-None c = rw c.in-None.is (told_silent _)

pub returns-in-None-first : goal.returns-in-None-first
unfolding point_code_in fresh_code_of
returns-in-None-first c = rw (c.in-Some.is, c.in-None-first.is) c.fresh_code.ensures

pub returns-in-Some-first : goal.returns-in-Some-first
unfolding point_code_in
returns-in-Some-first c = rw (c.in-Some.is, c.in-Some-first.is) (rw c.in-Some-first.is at c.again_code.ensures)
