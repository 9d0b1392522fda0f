use Rattle.cases.proofs.Symbols.{filling_start}
use Rattle.cases.proofs.fill.Goals as goal

pub loop-x-init : goal.loop-x-init
loop-x-init c = rw c.into_iter-x-iterator.ensures.into_iter_gives (filling_start _ _ _)
