use Rattle.settlement.specs.Values as reading
use Rattle.values.proofs.Spelled.{date_spelled}
use Rattle.values.proofs.Telling.{told_after}
use Rattle.values.specs.Sites.{spelling}
use Rattle.values.proofs.dates.spelled.Goals as goal

pub returns-then-other : goal.returns-then-other
unfolding spelling reading.other_spelling
returns-then-other c = rw (c.if-other.true, ← date_spelled _ _ _ _ _ _ c.own_text-own.ensures, ← c.own_text-own.ensures) (told_after (rw c.site-site.ensures at c.say.ensures) c.date_from.ensures)

pub returns : goal.returns
unfolding spelling
returns c = rw (c.if-other.false, ← date_spelled _ _ _ _ _ _ c.own_text-own.ensures) c.date_from-2.ensures
