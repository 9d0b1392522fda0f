use Rattle.groups.specs.Taxes.{again_code_of}
use Rattle.values.proofs.Telling.{told_silent, told_said}
use Rattle.groups.proofs.taxes.again_code.Goals as goal

pub returns-then-not-same : goal.returns-then-not-same
unfolding again_code_of
returns-then-not-same c = rw (← c.shown.ensures, ← c.shown-2.ensures, ← c.same.ensures, c.if-not-same.true) (told_said (rw c.site-site.ensures at c.say.ensures))

pub returns-else-not-same : goal.returns-else-not-same
unfolding again_code_of
returns-else-not-same c = rw (← c.shown.ensures, ← c.shown-2.ensures, ← c.same.ensures, c.if-not-same.false) (told_silent _)
