use Rattle.text.proofs.Spans.{part_short, part_long}
use Rattle.text.proofs.span.part.Goals as goal

pub returns-then-there-len : goal.returns-then-there-len
returns-then-there-len c = search part_short

pub returns : goal.returns
returns c = search part_long
