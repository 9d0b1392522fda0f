use Rattle.values.proofs.Telling.{said_none}
use Rattle.terms.proofs.finishing.say_totals.Goals as goal

pub returns-in-Some : goal.returns-in-Some
returns-in-Some c = rw c.in-Some.is (said_none _)
