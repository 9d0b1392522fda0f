use mathlib.Core.Path.{refl}
use Rattle.totals.proofs.Walks.{sums_acted}
use Rattle.totals.proofs.summands.sums.Goals as goal

pub returns : goal.returns
returns c = λ h. sums_acted _ _ _ _ c.hear_firsts-firsts.ensures (c.read_children-taxes.ensures _ h refl c.hear_firsts-firsts.ensures) c.amount_of.ensures c.amount_of-2.ensures c.amount_of-3.ensures c.amount_of-4.ensures
