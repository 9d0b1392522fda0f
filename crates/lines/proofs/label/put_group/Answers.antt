use Rattle.lines.proofs.Naming.{group_none, group_put}
use Rattle.lines.proofs.label.put_group.Goals as goal

pub returns-then-is_empty : goal.returns-then-is_empty
returns-then-is_empty c = search group_none

pub returns : goal.returns
returns c = search group_put
