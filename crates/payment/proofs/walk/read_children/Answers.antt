use Rattle.payment.proofs.Reaching.{reached_start, reached_turn}
use Rattle.payment.proofs.walk.read_children.Goals as goal

pub loop-c-init : goal.loop-c-init
loop-c-init c = (tt, tt, reached_start (rw c.into_iter-c-iterator.ensures.into_iter_gives c.kids-c-items.ensures))

pub loop-c-preserved : goal.loop-c-preserved
loop-c-preserved c = (tt, tt, reached_turn c.loop-c.invariant.2 c.in-Some.ensures.steps c.read_child-walk.ensures)
