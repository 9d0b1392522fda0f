use mathlib.Core.Option.{some}
use mathlib.Core.Path.{◌∙◌, ap}
use Rattle.element.proofs.Documents.{raw_none, raw_some}
use Rattle.element.proofs.document.Document.raw_text.Goals as goal

pub returns-then-len-eq0 : goal.returns-then-len-eq0
returns-then-len-eq0 c = raw_none _ _ c.field_of-len.ensures c.if-len-eq0.true

pub returns : goal.returns
returns c = ap some c.new.ensures ∙ raw_some _ _ c.field_of-len.ensures c.if-len-eq0.false c.field_of-start.ensures
