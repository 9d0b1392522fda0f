-- A reading with its texts exchanged for what f makes of them: the bytes that their places show.
use Rattle.std.specs.Prelude.{map}
use Rattle.std.proofs.Math.Option
use Rattle.report.specs.Rows.{map_entry, map_held, map_unmapped}
use Rattle.settlement.specs.Kinds.{Kind, creditor_reference, payment_reference, tax_currency, invoice_currency, payee, payment_means, trade_tax, period, allowance_charge, logistics_charge, payment_terms, summation, preceding_invoice, accounting, other}
use Rattle.settlement.specs.Shapes.{Identifier, Payee, Means, unset, card, debit, transfers, Payment, VatState, PaymentTerms, Of, State, Act, Currencies, Terms, Reading}

module _ {X Y : Type 0} (f : X → Y) where
  -- an identifier
  unfoldable pub map_identifier : Identifier X → Identifier Y
  map_identifier i = record { content = f i.content; scheme = Option.map f i.scheme }

  -- BG-10
  unfoldable pub map_payee : Payee X → Payee Y
  map_payee p = record { name = Option.map f p.name; identifier = Option.map map_identifier p.identifier; legal = Option.map map_identifier p.legal }

  -- the kind of payment means
  unfoldable pub map_means : Means X → Means Y
  map_means unset = unset
  map_means (card a b) = card (Option.map f a) (Option.map f b)
  map_means (debit a) = debit (Option.map f a)
  map_means transfers = transfers

  -- the payment so far
  unfoldable pub map_payment : Payment X → Payment Y
  map_payment p = record { met = p.met; code = Option.map f p.code; text = Option.map f p.text; means = map_means p.means }

  -- VAT so far
  unfoldable pub map_vat_state : VatState X → VatState Y
  map_vat_state s = record { count = s.count; point = s.point; code = s.code; first = Option.map f s.first }

  -- payment terms
  unfoldable pub map_payment_terms : PaymentTerms X → PaymentTerms Y
  map_payment_terms t = record { note = Option.map f t.note; due = t.due; mandate = Option.map f t.mandate }

  -- a lane
  abbrev pub map_of : (k : Kind) → Of X k → Of Y k
  map_of creditor_reference s = Option.map f s
  map_of payment_reference s = Option.map (Option.map f) s
  map_of tax_currency s = Option.map f s
  map_of invoice_currency s = Option.map f s
  map_of payee s = Option.map map_payee s
  map_of payment_means s = map_payment s
  map_of trade_tax s = map_vat_state s
  map_of period s = s
  map_of allowance_charge s = s
  map_of logistics_charge s = s
  map_of payment_terms s = map_payment_terms s
  map_of summation s = s
  map_of preceding_invoice s = s
  map_of accounting s = Option.map f s
  map_of other s = s

  -- all lanes
  abbrev pub map_state : State X → State Y
  map_state s = λ k. map_of k (s k)

  -- what a child makes
  unfoldable pub map_act : {S T : Type 0} → (S → T) → Act X S → Act Y T
  map_act g a = record { next = g a.next; says = map (map_entry f) a.says; holds = map (map_held f) a.holds; strays = map (map_unmapped f) a.strays }

  -- BT-5 and BT-6
  unfoldable pub map_currencies : Currencies X → Currencies Y
  map_currencies c = record { bt5 = Option.map f c.bt5; bt6 = Option.map f c.bt6 }

  -- the terms
  unfoldable pub map_terms : Terms X → Terms Y
  map_terms t =
      record {
        bt5 = Option.map f t.bt5;
        bt6 = Option.map f t.bt6;
        bt7 = t.bt7;
        bt8 = t.bt8;
        bt9 = t.bt9;
        bt19 = Option.map f t.bt19;
        bt20 = Option.map f t.bt20;
        payee = Option.map map_payee t.payee;
        period = t.period;
        paid = t.paid;
        bt81 = Option.map f t.bt81;
        bt82 = Option.map f t.bt82;
        bt83 = Option.map f t.bt83;
        means = map_means t.means;
        bt89 = Option.map f t.bt89;
        bt90 = Option.map f t.bt90;
        totals = t.totals;
      }

  -- the reading
  unfoldable pub map_reading : Reading X → Reading Y
  map_reading r =
      record {
        terms = map_terms r.terms;
        held = map (map_held f) r.held;
        entries = map (map_entry f) r.entries;
        unmapped = map (map_unmapped f) r.unmapped;
      }
