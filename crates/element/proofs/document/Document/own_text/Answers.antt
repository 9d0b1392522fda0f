use Rattle.settlement.specs.Values.{own_text}
use Rattle.element.proofs.document.Document.own_text.Goals as goal

pub returns-in-None : goal.returns-in-None
unfolding own_text
returns-in-None c = rw (← c.text_in.ensures, c.in-None.is) c.new.ensures

pub returns-in-Some : goal.returns-in-Some
unfolding own_text
returns-in-Some c = rw (← c.text_in.ensures, c.in-Some.is)
