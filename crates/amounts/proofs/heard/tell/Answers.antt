use Rattle.values.proofs.Telling.{told_silent}
use Rattle.amounts.proofs.heard.tell.Goals as goal

pub returns-in-Ok : goal.returns-in-Ok
returns-in-Ok c = rw c.in-Ok.is (told_silent _)
