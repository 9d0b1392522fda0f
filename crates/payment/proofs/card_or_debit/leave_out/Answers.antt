use mathlib.Core.Path.{refl}
use Rattle.payment.proofs.Walking.{walked_said}
use Rattle.settlement.specs.Payments.{not_held}
use Rattle.payment.proofs.card_or_debit.leave_out.Goals as goal

pub returns : goal.returns
unfolding not_held
returns c = walked_said refl c.not_held.ensures
