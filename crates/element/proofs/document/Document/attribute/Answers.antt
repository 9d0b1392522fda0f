use Rattle.element.proofs.Documents.{attribute_none, attribute_made}
use Rattle.element.proofs.document.Document.attribute.Goals as goal

pub returns-in_err-a : goal.returns-in_err-a
returns-in_err-a c = rw c.from_residual.ensures (attribute_none _ _ _ _ _ c.attribute.ensures c.in_err-a.was)

pub returns : goal.returns
returns c = attribute_made _ _ _ _ _ c.attribute.ensures c.in_ok-a.was c.trimmed.ensures
