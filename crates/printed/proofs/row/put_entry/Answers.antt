use Rattle.text.specs.Utf8.{bytes, encode}
use Rattle.printed.proofs.Putting.{entry_put}
use Rattle.printed.proofs.row.put_entry.Goals as goal

pub returns : goal.returns
unfolding bytes encode
returns c = search entry_put
