use Rattle.groups.proofs.Steps.{period_told}
use Rattle.values.proofs.Spelled.{date_kid}
use Rattle.text.specs.Utf8.{bytes, encode}
use Rattle.groups.proofs.periods.period.Goals as goal

pub returns : goal.returns
unfolding bytes encode
returns c = period_told _ _ _ (rw (date_kid _ _ _ _ _ _ _ c.kid.ensures) at c.date.ensures) (rw (date_kid _ _ _ _ _ _ _ c.kid-2.ensures) at c.date-2.ensures)
