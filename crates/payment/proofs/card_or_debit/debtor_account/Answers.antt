use Rattle.settlement.specs.Payments.{part}
use Rattle.payment.proofs.card_or_debit.debtor_account.Goals as goal

pub returns : goal.returns
unfolding part
returns c = λ h u. rw (← c.account_of-account.ensures) (c.first_means.ensures _ h u)
