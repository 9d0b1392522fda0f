use Rattle.totals.proofs.Steps.{acted_then}
use Rattle.totals.proofs.Walks.{walk_start, walk_turn, walk_out}
use Rattle.totals.proofs.summands.read_children.Goals as goal

pub loop-c-init : goal.loop-c-init
loop-c-init c = (tt, tt, λ L h q f. walk_start (rw c.into_iter-c-iterator.ensures.into_iter_gives c.kids-c-items.ensures))

pub loop-c-preserved : goal.loop-c-preserved
loop-c-preserved c = (tt, tt, λ L h q f. walk_turn (c.loop-c.invariant.2 L h q f) c.in-Some.ensures.steps (λ m a. acted_then _ _ _ _ _ m a (c.read_child-taxes.ensures L h q f)))

pub returns : goal.returns
returns c = λ L h q f. walk_out (c.loop-c.invariant.2 L h q f) c.in-None.ensures.steps.0
