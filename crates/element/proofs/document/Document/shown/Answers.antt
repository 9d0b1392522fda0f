use Rattle.settlement.specs.TableDoc.{shows}
use Rattle.element.proofs.document.Document.shown.Goals as goal

pub returns : goal.returns
unfolding shows
returns c = c.bytes.ensures
