use Rattle.values.proofs.Telling.{said_none}
use Rattle.terms.proofs.debit.say_lost.Goals as goal

pub returns-in-None : goal.returns-in-None
returns-in-None c = rw c.in-None.is (said_none _)
