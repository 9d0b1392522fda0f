use Rattle.settlement.specs.Payments.{account_of}
use Rattle.text.specs.Utf8.{bytes, encode}
use Rattle.payment.proofs.card_or_debit.account_of.Goals as goal

pub returns-in-None : goal.returns-in-None
unfolding account_of bytes encode
returns-in-None c = rw (← c.kid_text.ensures, c.in-None.is) c.kid_text-in-None.ensures

pub returns-in-Some : goal.returns-in-Some
unfolding account_of bytes encode
returns-in-Some c = rw (← c.kid_text.ensures, c.in-Some.is)
