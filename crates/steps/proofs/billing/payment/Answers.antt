use mathlib.Core.Path.{refl}
use Rattle.steps.proofs.Stepping.{lanes}
use Rattle.steps.specs.Steps.{act_by, step_by}
use Rattle.settlement.specs.Kinds.{same_kind, home}
use Rattle.settlement.specs.Settlement.{own}
use Rattle.steps.proofs.billing.payment.Goals as goal

pub returns : goal.returns
unfolding step_by act_by own home same_kind
returns c L p t m =
    let acted = c.filled_in-payment.ensures in
    record { state = lanes refl refl refl refl refl acted.same refl refl refl refl refl refl refl refl refl; held = acted.held; said = acted.said; noted = acted.noted }
