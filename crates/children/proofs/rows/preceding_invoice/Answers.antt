use mathlib.Core.Path.{refl}
use Rattle.values.specs.Sites.{lent_for}
use Rattle.children.proofs.Acting.{preceding_acted}
use Rattle.steps.proofs.Stepping.{lanes}
use Rattle.steps.specs.Steps.{act_by, step_by}
use Rattle.settlement.specs.Kinds.{same_kind, home}
use Rattle.settlement.specs.Settlement.{own}
use Rattle.children.proofs.rows.preceding_invoice.Goals as goal

pub returns : goal.returns
unfolding step_by act_by own home same_kind
returns c currency p b m u =
    let acted = preceding_acted (lent_for c.args.lent.now currency) _ _ _ u _ c.preceding-row.ensures c.hold_preceding.ensures in
    record { state = lanes refl refl refl refl refl refl refl refl refl refl refl refl acted.same refl refl; held = acted.held; said = acted.said; noted = acted.noted }
