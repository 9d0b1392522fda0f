use mathlib.Core.Path.{refl, ap}
use mathlib.Core.Option.{some}
use Rattle.settlement.specs.Kinds.{same_kind, home}
use Rattle.settlement.specs.Settlement.{quiet, own}
use Rattle.text.specs.Utf8.{bytes, encode}
use Rattle.steps.specs.Steps.{act_by, step_by}
use Rattle.steps.proofs.Stepping.{lanes, none_held, none_said, none_noted}
use Rattle.steps.proofs.plain.plain_child.Goals as goal

pub returns-in-CreditorReference : goal.returns-in-CreditorReference
unfolding step_by act_by own quiet home same_kind
returns-in-CreditorReference c L t b m h e u =
    rw c.in-CreditorReference.is
    (record { state = lanes c.text_in.ensures refl refl refl refl refl refl refl refl refl refl refl refl refl refl; held = none_held refl h; said = none_said refl e; noted = none_noted refl _ u })

pub returns-in-PaymentReference : goal.returns-in-PaymentReference
unfolding step_by act_by own quiet home same_kind
returns-in-PaymentReference c L t b m h e u =
    rw c.in-PaymentReference.is
    (record { state = lanes refl (ap some c.text_in-in-PaymentReference.ensures) refl refl refl refl refl refl refl refl refl refl refl refl refl; held = none_held refl h; said = none_said refl e; noted = none_noted refl _ u })

pub returns-in-TaxCurrency : goal.returns-in-TaxCurrency
unfolding step_by act_by own quiet home same_kind
returns-in-TaxCurrency c L t b m h e u =
    rw c.in-TaxCurrency.is
    (record { state = lanes refl refl (ap some c.own_text.ensures) refl refl refl refl refl refl refl refl refl refl refl refl; held = none_held refl h; said = none_said refl e; noted = none_noted refl _ u })

pub returns-in-InvoiceCurrency : goal.returns-in-InvoiceCurrency
unfolding step_by act_by own quiet home same_kind
returns-in-InvoiceCurrency c L t b m h e u =
    rw c.in-InvoiceCurrency.is
    (record { state = lanes refl refl refl (ap some c.own_text-in-InvoiceCurrency.ensures) refl refl refl refl refl refl refl refl refl refl refl; held = none_held refl h; said = none_said refl e; noted = none_noted refl _ u })

pub returns-in-Payee : goal.returns-in-Payee
unfolding step_by act_by own quiet home same_kind
returns-in-Payee c L t b m h e u =
    rw c.in-Payee.is
    (record { state = lanes refl refl refl refl (ap some c.payee.ensures) refl refl refl refl refl refl refl refl refl refl; held = none_held refl h; said = none_said refl e; noted = none_noted refl _ u })

pub returns-in-Accounting : goal.returns-in-Accounting
unfolding step_by act_by own quiet home same_kind bytes encode
returns-in-Accounting c L t b m h e u = rw c.in-Accounting.is
    (record { state = lanes refl refl refl refl refl refl refl refl refl refl refl refl refl c.kid_text.ensures refl; held = none_held refl h; said = none_said refl e; noted = none_noted refl _ u })
