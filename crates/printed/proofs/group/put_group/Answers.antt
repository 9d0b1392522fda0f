use Rattle.text.specs.Utf8.{bytes, encode}
use Rattle.printed.proofs.Putting.{group_none, group_put}
use Rattle.printed.proofs.group.put_group.Goals as goal

pub returns-then-count_at-eq0 : goal.returns-then-count_at-eq0
returns-then-count_at-eq0 c = search group_none

pub returns : goal.returns
unfolding bytes encode
returns c = search group_put
