use mathlib.Core.Path.{refl, ◌∙◌}
use Rattle.children.proofs.Acting.{allowance_acted, charge_more, allowance_more}
use Rattle.steps.proofs.Stepping.{lanes}
use Rattle.steps.specs.Steps.{act_by, step_by}
use Rattle.settlement.specs.Kinds.{same_kind, home}
use Rattle.settlement.specs.Settlement.{own}
use Rattle.children.proofs.rows.allowance_charge.Goals as goal

pub returns-then-charge : goal.returns-then-charge
unfolding step_by act_by own home same_kind
returns-then-charge c p b m u =
    let acted = allowance_acted _ _ _ _ u _ c.allowance_charge-charge.ensures c.hold_allowance_charge.ensures in
    record { state = lanes refl refl refl refl refl refl refl refl (charge_more c.if-charge.true _ ∙ acted.same) refl refl refl refl refl refl; held = acted.held; said = acted.said; noted = acted.noted }

pub returns : goal.returns
unfolding step_by act_by own home same_kind
returns c p b m u =
    let acted = allowance_acted _ _ _ _ u _ c.allowance_charge-charge.ensures c.hold_allowance_charge.ensures in
    record { state = lanes refl refl refl refl refl refl refl refl (allowance_more c.if-charge.false _ ∙ acted.same) refl refl refl refl refl refl; held = acted.held; said = acted.said; noted = acted.noted }
