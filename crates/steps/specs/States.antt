-- What the code's state of a reading means.
use Rattle.std.proofs.Math.Option.{Option, none, some}
use Rattle.report.specs.Rows.{Place}
use Rattle.report.specs.Values.{text_of}
use Rattle.settlement.specs.Kinds.{creditor_reference, payment_reference, tax_currency, invoice_currency, payee, payment_means, trade_tax, period, allowance_charge, logistics_charge, payment_terms, summation, preceding_invoice, accounting, other}
use Rattle.settlement.specs.Shapes.{Payee, Period, Totals, State}
use Rattle.groups.specs.Groups.{payee_of, period_of, payment_terms_of}
use Rattle.groups.specs.Taxes.{vat_state_of}
use Rattle.payment.specs.Walks.{payment_of}
use Rattle.totals.specs.Reading.{totals_of}
use Rattle.steps.specs.declared.state.Plain.{Plain}
use Rattle.steps.specs.declared.state.Tally.{Tally}
use Rattle.steps.specs.declared.state.Billing.{Billing}
use Rattle.steps.specs.declared.state.State as Code
use Rattle.std.specs.declared.option.Option as code
use Rattle.std.specs.Prelude.{None, Some}
use Rattle.report.specs.declared.value.Place as CodePlace
use Rattle.groups.specs.declared.shapes.Payee as CodePayee
use Rattle.groups.specs.declared.shapes.Period as CodePeriod
use Rattle.totals.specs.declared.state.Totals as CodeTotals

-- BT-83, where a reference was met
abbrev pub reference_of : code.Option (code.Option CodePlace.Place) → Option (Option Place)
reference_of None = none
reference_of (Some t) = some (text_of t)

-- BG-10
abbrev pub maybe_payee_of : code.Option CodePayee.Payee → Option (Payee Place)
maybe_payee_of None = none
maybe_payee_of (Some p) = some (payee_of p)

-- BG-14
abbrev pub maybe_period_of : code.Option CodePeriod.Period → Option Period
maybe_period_of None = none
maybe_period_of (Some p) = some (period_of p)

-- BG-22
abbrev pub maybe_totals_of : code.Option CodeTotals.Totals → Option Totals
maybe_totals_of None = none
maybe_totals_of (Some t) = some (totals_of t)

-- the state of its parts
abbrev pub state : Plain → Tally → Billing → code.Option CodeTotals.Totals → Code.State
state p t b m = record { plain = p; tally = t; billing = b; totals = m }

-- what each lane holds
abbrev pub state_of : Code.State → State Place
state_of s creditor_reference = text_of s.plain.creditor
state_of s payment_reference = reference_of s.plain.reference
state_of s tax_currency = text_of s.plain.tax_currency
state_of s invoice_currency = text_of s.plain.invoice_currency
state_of s payee = maybe_payee_of s.plain.payee
state_of s payment_means = payment_of s.billing.payment
state_of s trade_tax = vat_state_of s.tally.vat
state_of s period = maybe_period_of s.billing.period
state_of s allowance_charge = record { allowances = s.tally.allowances; charges = s.tally.charges }
state_of s logistics_charge = tt
state_of s payment_terms = payment_terms_of s.billing.terms
state_of s summation = maybe_totals_of s.totals
state_of s preceding_invoice = s.tally.invoices
state_of s accounting = text_of s.plain.accounting
state_of s other = tt
