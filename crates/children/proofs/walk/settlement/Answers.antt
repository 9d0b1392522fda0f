use borrow.Author.Tests.{le-leb, lt-leb}
use Rattle.children.proofs.Walking.{walked_none, walked_fresh, fresh_counted}
use Rattle.children.proofs.walk.settlement.Goals as goal

pub read_children-requires : goal.read_children-requires
read_children-requires c = (rw c.links.ensures at c.if-links-le12288.true, fresh_counted _ c.blank-start.ensures)

pub returns-then-links-le12288 : goal.returns-then-links-le12288
returns-then-links-le12288 c = rw (le-leb _ _ (rw c.links.ensures at c.if-links-le12288.true)) (walked_fresh _ _ _ c.blank-start.ensures c.read_children.ensures)

pub returns : goal.returns
returns c = rw (lt-leb _ _ (rw c.links.ensures at c.if-links-le12288.false)) (walked_fresh _ _ _ c.blank-start.ensures (walked_none _ _ _ _ _ _ _))
