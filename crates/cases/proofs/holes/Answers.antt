use Rattle.std.proofs.Common.{arith}
use Rattle.cases.proofs.Symbols.{holes_next}
use Rattle.cases.proofs.holes.Goals as goal

pub loop-x-preserved : goal.loop-x-preserved
loop-x-preserved c = (
  grind (arith, c.min-n.ensures),
  holes_next _ _ _ _ _ _ _ c.loop-x.invariant.1 c.in-Some.ensures.steps c.weight.ensures (grind (arith, c.min-n.ensures, c.saturating_add.ensures)),
)
