use Rattle.text.specs.Utf8.{bytes, encode}
use Rattle.amounts.specs.Amounts.{amount_beside}
use Rattle.amounts.proofs.heard.hear_text.Goals as goal

pub returns-in-None : goal.returns-in-None
unfolding amount_beside bytes encode
returns-in-None c = λ s. rw (← c.attribute.ensures, c.in-None.is) (c.parsed.ensures s)

pub returns-in-Some : goal.returns-in-Some
unfolding amount_beside bytes encode
returns-in-Some c = λ s. rw (← c.attribute.ensures, c.in-Some.is) (c.in_currency.ensures s)
