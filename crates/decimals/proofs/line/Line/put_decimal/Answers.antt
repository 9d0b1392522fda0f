use Rattle.decimals.proofs.Putting.{puts_decimal}
use Rattle.decimals.proofs.line.Line.put_decimal.Goals as goal

pub returns : goal.returns
returns c = puts_decimal c.put_bytes.ensures c.as_bytes.ensures.value c.ranges.n.fits c.format.ensures.text
