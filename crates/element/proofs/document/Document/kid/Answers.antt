use mathlib.Core.Path.{◌∙◌}
use Rattle.element.proofs.Documents.{kid_is}
use Rattle.element.proofs.document.Document.kid.Goals as goal

pub returns : goal.returns
returns c = c.first_child.ensures ∙ kid_is _ _ _ _ _
