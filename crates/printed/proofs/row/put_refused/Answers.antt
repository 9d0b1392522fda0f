use Rattle.text.specs.Utf8.{bytes, encode}
use Rattle.fields.specs.Line.{line}
use Rattle.printed.specs.Numbers.{refused_line}
use Rattle.printed.proofs.row.put_refused.Goals as goal

pub returns : goal.returns
unfolding refused_line line bytes encode
returns c = c.put_row_line.ensures
