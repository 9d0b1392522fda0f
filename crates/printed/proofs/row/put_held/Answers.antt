use Rattle.text.specs.Utf8.{bytes, encode}
use Rattle.fields.specs.Line.{line}
use Rattle.printed.proofs.Putting.{held_put}
use Rattle.printed.proofs.row.put_held.Goals as goal

pub returns : goal.returns
unfolding line bytes encode
returns c = search held_put
