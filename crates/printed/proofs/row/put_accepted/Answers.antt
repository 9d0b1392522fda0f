use Rattle.text.specs.Utf8.{bytes, encode}
use Rattle.fields.specs.Line.{line}
use Rattle.printed.specs.Numbers.{accepted_line}
use Rattle.printed.proofs.row.put_accepted.Goals as goal

pub returns : goal.returns
unfolding accepted_line line bytes encode
returns c = c.put_row_line.ensures
