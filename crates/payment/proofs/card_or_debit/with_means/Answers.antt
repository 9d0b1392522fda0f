use mathlib.Core.Path.{refl}
use Rattle.payment.proofs.Walking.{walked_still}
use Rattle.settlement.specs.Payments.{with_means}
use Rattle.payment.proofs.card_or_debit.with_means.Goals as goal

pub returns : goal.returns
unfolding with_means
returns c = walked_still refl
