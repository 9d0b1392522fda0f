use Rattle.settlement.specs.Values as reading
use Rattle.text.specs.Utf8.{bytes, encode}
use Rattle.values.proofs.Spelled.{not_cond}
use Rattle.values.proofs.Telling.{told_silent}
use Rattle.values.specs.Sites.{spelling}
use Rattle.values.proofs.dates.date_in.Goals as goal

pub returns-in_err-e-in-None : goal.returns-in_err-e-in-None
unfolding reading.date_in bytes encode
returns-in_err-e-in-None c = rw (← c.kid.ensures, c.in-None.is, ← c.kid-in-None.ensures, c.in_err-e-in-None.was, c.from_residual.ensures) (told_silent _)

pub returns-in_ok-e-in-None : goal.returns-in_ok-e-in-None
unfolding reading.date_in spelling bytes encode
returns-in_ok-e-in-None c = rw (← c.kid.ensures, c.in-None.is, ← c.kid-in-None.ensures, c.in_ok-e-in-None.was) (rw (not_cond _ _ _) at c.spelled-in-None.ensures)

pub returns-in-Some : goal.returns-in-Some
unfolding reading.date_in spelling bytes encode
returns-in-Some c = rw (← c.kid.ensures, c.in-Some.is) c.spelled.ensures
