-- What the code's payment and walk mean.
use Rattle.std.specs.Prelude.{Bool, true, false, List, [], ◌∷◌}
use Rattle.report.specs.Rows.{Place, Transfer}
use Rattle.report.specs.Values.{text_of, transfer_of}
use Rattle.settlement.specs.Shapes.{Means, unset, card, debit, transfers, Payment}
use Rattle.settlement.specs.Payments.{Paying}
use Rattle.payment.specs.declared.paying.Means as CodeMeans
use Rattle.payment.specs.declared.paying.Means.TheVariants.{Unset, Card, Debit, Transfers}
use Rattle.payment.specs.declared.paying.Payment as CodePayment
use Rattle.payment.specs.declared.paying.Walk as CodeWalk
use Rattle.std.specs.Prelude.{Option, None, Some}
use Rattle.report.specs.declared.held.Transfer as CodeTransfer

-- the kind of means
abbrev pub means_of : CodeMeans.Means → Means Place
means_of Unset = unset
means_of (Card k) = card (text_of k.number) (text_of k.holder)
means_of (Debit a) = debit (text_of a)
means_of Transfers = transfers

-- the payment so far
abbrev pub payment_of : CodePayment.Payment → Payment Place
payment_of p = record { met = p.met; code = text_of p.code; text = text_of p.text; means = means_of p.means }

-- whether an account waits
abbrev pub waits : Option CodeTransfer.Transfer → Bool
waits None = false
waits (Some t) = true

-- its row
abbrev pub waiting_rows : Option CodeTransfer.Transfer → List (Transfer Place)
waiting_rows None = []
waiting_rows (Some t) = transfer_of t ∷ []

-- a walk as far as it is not in the lists yet
abbrev pub paying_of : CodeWalk.Walk → Paying Place
paying_of w = record { payment = payment_of w.payment; last = waits w.waiting; rows = waiting_rows w.waiting; says = []; strays = [] }
