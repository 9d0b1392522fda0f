use Rattle.settlement.specs.Settlement.{kind_of}
use Rattle.kinds.proofs.child.kind_of.Goals as goal

pub returns : goal.returns
unfolding kind_of
returns c = rw c.name.ensures at (rw c.shown.ensures at c.kind_named.ensures)
