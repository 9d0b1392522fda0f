use Rattle.settlement.specs.Tax as reading
use Rattle.values.proofs.Telling.{told_silent, told_said}
use Rattle.charges.proofs.indicators.indicated.Goals as goal

pub returns-in-Some : goal.returns-in-Some
unfolding reading.indicated
returns-in-Some c = rw (← c.own_text-own.ensures, ← c.shown.ensures, ← c.parse_boolean.ensures, c.in-Some.is) (told_silent _)

pub returns-in-None : goal.returns-in-None
unfolding reading.indicated
returns-in-None c = rw (← c.own_text-own.ensures, ← c.shown.ensures, ← c.parse_boolean.ensures, c.in-None.is) (told_said (rw c.site-site.ensures at c.say.ensures))
