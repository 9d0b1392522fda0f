use Rattle.decimals.proofs.Putting.{puts_signed}
use Rattle.decimals.proofs.line.Line.put_signed.Goals as goal

pub returns : goal.returns
returns c = puts_signed c.put_bytes.ensures c.as_bytes.ensures.value c.ranges.z c.format.ensures.text
