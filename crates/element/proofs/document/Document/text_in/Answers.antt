use Rattle.element.proofs.Documents.{text_in_made}
use Rattle.element.proofs.document.Document.text_in.Goals as goal

pub returns : goal.returns
returns c = search text_in_made
