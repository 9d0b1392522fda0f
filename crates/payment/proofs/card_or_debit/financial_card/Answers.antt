use Rattle.settlement.specs.Payments.{part}
use Rattle.text.specs.Utf8.{bytes, encode}
use Rattle.payment.proofs.card_or_debit.financial_card.Goals as goal

pub returns : goal.returns
unfolding part bytes encode
returns c = λ h u. rw (← c.kid_text-2.ensures, ← c.kid_text.ensures) (c.first_means.ensures _ h u)
