use Rattle.settlement.specs.Values.{kid_text}
use Rattle.element.proofs.document.Document.kid_text.Goals as goal

pub returns : goal.returns
unfolding kid_text
returns c = rw (← c.kid.ensures) c.child_text.ensures
