use Rattle.payment.proofs.Walking.{walked_on}
use Rattle.settlement.specs.Payments.{joined}
use Rattle.text.specs.Utf8.{bytes, encode}
use Rattle.values.proofs.Telling.{said_none}
use Rattle.payment.proofs.accounts.hold_account.Goals as goal

pub returns : goal.returns
unfolding joined bytes encode
returns c = λ x e u. walked_on c.put_waiting.ensures (said_none e) (rw (c.kid_text.ensures, c.account_of.ensures)) x u
