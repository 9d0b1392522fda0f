use mathlib.Core.Path.{refl, ◌∙◌}
use Rattle.children.proofs.Acting.{logistics_held, logistics-left, charge_more}
use Rattle.steps.proofs.Stepping.{lanes}
use Rattle.steps.specs.Steps.{act_by, step_by}
use Rattle.settlement.specs.Kinds.{same_kind, home}
use Rattle.settlement.specs.Settlement.{own}
use Rattle.children.proofs.rows.logistics_charge.Goals as goal

pub returns-in-None : goal.returns-in-None
unfolding step_by act_by own home same_kind
returns-in-None c p b m u =
    let acted = logistics-left _ _ _ _ u _ (rw c.in-None.is at c.logistics_charge.ensures) _ in
    record { state = lanes refl refl refl refl refl refl refl refl acted.same refl refl refl refl refl refl; held = acted.held; said = acted.said; noted = acted.noted }

pub returns-in-Some : goal.returns-in-Some
unfolding step_by act_by own home same_kind
returns-in-Some c p b m u =
    let acted = logistics_held _ _ _ _ u _ (rw c.in-Some.is at c.logistics_charge.ensures) c.hold_allowance_charge.ensures in
    record { state = lanes refl refl refl refl refl refl refl refl (charge_more refl _ ∙ acted.same) refl refl refl refl refl refl; held = acted.held; said = acted.said; noted = acted.noted }
