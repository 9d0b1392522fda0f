use Rattle.report.proofs.Holding.{holds_none}
use Rattle.payment.proofs.accounts.put_waiting.Goals as goal

pub returns-in_default : goal.returns-in_default
returns-in_default c = rw c.in_default.is (holds_none _)
