use mathlib.Core.Path.{refl}
use Rattle.children.proofs.Acting.{vat_acted}
use Rattle.steps.proofs.Stepping.{lanes}
use Rattle.steps.specs.Steps.{act_by, step_by}
use Rattle.settlement.specs.Kinds.{same_kind, home}
use Rattle.settlement.specs.Settlement.{own}
use Rattle.children.proofs.rows.vat_breakdown.Goals as goal

pub returns : goal.returns
unfolding step_by act_by own home same_kind
returns c p b m u =
    let acted = vat_acted _ _ _ _ u _ c.vat_breakdown.ensures c.hold_vat.ensures in
    record { state = lanes refl refl refl refl refl refl acted.same refl refl refl refl refl refl refl refl; held = acted.held; said = acted.said; noted = acted.noted }
