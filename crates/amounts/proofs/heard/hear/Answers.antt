use Rattle.settlement.specs.Values as reading
use Rattle.amounts.proofs.Spelled.{heard_spelled}
use Rattle.amounts.proofs.heard.hear.Goals as goal

pub returns-in-None : goal.returns-in-None
unfolding reading.amount_of
returns-in-None c = λ s. rw (← c.text_in.ensures, c.in-None.is)

pub returns-in-Some : goal.returns-in-Some
returns-in-Some c = λ s. rw (← heard_spelled _ _ _ _ _ _ s (rw c.in-Some.is at c.text_in.ensures)) (c.hear_text.ensures s)
