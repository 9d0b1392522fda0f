use Rattle.text.specs.Utf8.{bytes, encode}
use Rattle.printed.proofs.Putting.{unmapped_put}
use Rattle.printed.proofs.row.put_unmapped.Goals as goal

pub returns : goal.returns
unfolding bytes encode
returns c = search unmapped_put
