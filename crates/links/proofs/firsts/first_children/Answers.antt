use Rattle.links.proofs.FirstKids.{keep_turn}
use Rattle.links.proofs.firsts.first_children.Goals as goal

pub loop-c-preserved : goal.loop-c-preserved
loop-c-preserved c = (tt, tt, keep_turn _ _ _ _ c.loop-c.invariant.2 c.in-Some.ensures.steps c.name.ensures c.position_of.ensures c.unwrap_or-k.ensures c.keep_first.ensures)
