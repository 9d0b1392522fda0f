use Rattle.amounts.specs.Amounts.{amount_in}
use Rattle.amounts.proofs.heard.in_currency.Goals as goal

pub returns-in-None : goal.returns-in-None
unfolding amount_in
returns-in-None c = λ s. rw (← c.shown.ensures, ← c.in_document_currency.ensures, c.in-None.is) (c.parsed.ensures s)

pub returns-in-Some : goal.returns-in-Some
unfolding amount_in
returns-in-Some c = λ s. rw (← c.shown.ensures, ← c.in_document_currency.ensures, c.in-Some.is)
