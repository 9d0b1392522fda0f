use Rattle.values.specs.Sites.{answered_at, day_at}
use Rattle.date.proofs.Dates.{no_date}
use Rattle.values.proofs.Telling.{told_silent, told_said}
use Rattle.values.proofs.dates.parsed.Goals as goal

pub returns-in-Ok : goal.returns-in-Ok
unfolding day_at answered_at
returns-in-Ok c = rw (← c.shown.ensures, ← c.parse_trimmed.ensures, c.in-Ok.is) (told_silent _)

pub returns-in-Err : goal.returns-in-Err
unfolding day_at answered_at
returns-in-Err c = rw (← c.shown.ensures, ← c.parse_trimmed.ensures, c.in-Err.is, no_date c.in-Err.error, ← c.message_of.ensures) (told_said c.say.ensures)
