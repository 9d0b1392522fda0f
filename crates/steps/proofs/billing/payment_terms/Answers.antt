use mathlib.Core.Path.{refl}
use Rattle.steps.proofs.Stepping.{lanes, none_held, none_noted}
use Rattle.steps.specs.Steps.{act_by, step_by}
use Rattle.settlement.specs.Kinds.{same_kind, home}
use Rattle.settlement.specs.Settlement.{own, payment_terms_of}
use Rattle.steps.proofs.billing.payment_terms.Goals as goal

pub returns : goal.returns
unfolding step_by act_by own payment_terms_of home same_kind
returns c currency p t m h u =
    let said = c.payment_terms-terms.ensures in
    record { state = lanes refl refl refl refl refl refl refl refl refl refl said.same refl refl refl refl; held = none_held refl h; said = said.said; noted = none_noted refl _ u }
