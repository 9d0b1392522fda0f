use mathlib.Core.List.{append-nil}
use Rattle.payment.proofs.Walking.{walked_on}
use Rattle.settlement.specs.Payments.{not_held, lost}
use Rattle.payment.proofs.accounts.lose_account.Goals as goal

pub returns : goal.returns
unfolding lost not_held
returns c = walked_on c.put_waiting.ensures c.not_held.ensures (rw append-nil)
