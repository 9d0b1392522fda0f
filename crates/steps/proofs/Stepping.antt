-- Laws of steps: what a child leaves as it is, and what it makes.
use mathlib.Core.Path.{◌≡◌, fun_ext}
use mathlib.Core.List.{List, []}
use Prim.Native.Nat.{ℕ}
use Rattle.report.specs.Rows.{Place, Entry, Held, Unmapped}
use Rattle.report.specs.HeldRows.{Holds}
use Rattle.report.specs.declared.held.HeldRows.{HeldRows}
use Rattle.report.proofs.Holding.{holds_none}
use Rattle.values.specs.Told.{Said}
use Rattle.values.proofs.Telling.{said_none}
use Rattle.values.specs.declared.saying.Entries.{Entries}
use Rattle.unmapped.specs.Acted.{Notes}
use Rattle.unmapped.specs.declared.note.UnmappedRows.{UnmappedRows}
use Rattle.unmapped.proofs.Notings.{notes_none}
use Rattle.settlement.specs.Kinds.{Kind, creditor_reference, payment_reference, tax_currency, invoice_currency, payee, payment_means, trade_tax, period, allowance_charge, logistics_charge, payment_terms, summation, preceding_invoice, accounting, other}
use Rattle.settlement.specs.Shapes.{State}

-- two states whose lanes are the same
pub lanes :
    {X : Type 0} {s t : State X} →
    s creditor_reference ≡ t creditor_reference →
    s payment_reference ≡ t payment_reference →
    s tax_currency ≡ t tax_currency →
    s invoice_currency ≡ t invoice_currency →
    s payee ≡ t payee →
    s payment_means ≡ t payment_means →
    s trade_tax ≡ t trade_tax →
    s period ≡ t period →
    s allowance_charge ≡ t allowance_charge →
    s logistics_charge ≡ t logistics_charge →
    s payment_terms ≡ t payment_terms →
    s summation ≡ t summation →
    s preceding_invoice ≡ t preceding_invoice →
    s accounting ≡ t accounting →
    s other ≡ t other →
    s ≡ t
lanes {X} {s} {t} a b c d e f g h i j k l m n o = fun_ext go
  where
    go : (q : Kind) → s q ≡ t q
    go creditor_reference = a
    go payment_reference = b
    go tax_currency = c
    go invoice_currency = d
    go payee = e
    go payment_means = f
    go trade_tax = g
    go period = h
    go allowance_charge = i
    go logistics_charge = j
    go payment_terms = k
    go summation = l
    go preceding_invoice = m
    go accounting = n
    go other = o

-- no row was put
pub none_held : {hs : List (Held Place)} → hs ≡ [] → (h : HeldRows) → Holds hs h h
none_held e h = rw e (holds_none h)

-- nothing was said
pub none_said : {es : List (Entry Place)} → es ≡ [] → (e : Entries) → Said es e e
none_said q e = rw q (said_none e)

-- no name was noted
pub none_noted : {us : List (Unmapped Place)} → us ≡ [] → (x : List ℕ) (u : UnmappedRows) → Notes x us u u
none_noted e x u = rw e (notes_none x u)
