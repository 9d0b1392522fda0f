use mathlib.Core.Path.{refl}
use Rattle.steps.proofs.Stepping.{lanes}
use Rattle.steps.specs.Steps.{act_by, step_by}
use Rattle.settlement.specs.Kinds.{same_kind, home}
use Rattle.settlement.specs.Settlement.{own, seen, so_far}
use Rattle.steps.proofs.summing.summation.Goals as goal

pub returns : goal.returns
unfolding step_by act_by own seen so_far home same_kind
returns c t b m h =
    let acted = c.totals.ensures h in
    record { state = lanes refl refl refl refl refl refl refl refl refl refl refl acted.same refl refl refl; held = acted.held; said = acted.said; noted = acted.noted }
