-- The reading of a settlement: its children in order, each on the lane of its kind, and what happens at the end (document 01, `read.rs`).
use Rattle.std.specs.Prelude.{Bool, false, cond, not, ◌||◌}
use mathlib.Core.List.{List, [], ◌∷◌, ◌++◌, foldl}
use Rattle.std.proofs.Math.Option.{Option, none, some}
use Prim.Native.Nat.{ℕ, suc, Ordering}
use Rattle.text.specs.Order.{order}
use Rattle.text.specs.Utf8.{bytes}
use Rattle.codes.specs.declared.rules.Rule.TheVariants as Rule
use Rattle.names.specs.Parent.{parent_number}
use Rattle.names.specs.declared.message.Message.TheVariants as Message
use Rattle.names.specs.declared.parent.Parent.TheVariants as Parent
use Rattle.names.specs.declared.path.Path.TheVariants as Path
use Rattle.names.specs.declared.term.Term.TheVariants as Term
use Rattle.report.specs.Rows.{Entry, Held, preceding, Unmapped}
use Rattle.settlement.specs.Document.{Doc, maybe, or_else, or}
use Rattle.settlement.specs.Kinds.{Kind, creditor_reference, payment_reference, tax_currency, invoice_currency, payee, payment_means, trade_tax, period, allowance_charge, logistics_charge, payment_terms, summation, preceding_invoice, accounting, other, same_kind, home, kind_named}
use Rattle.settlement.specs.Shapes.{Identifier, Payee, Means, unset, card, debit, transfers, PaymentTerms, Period, no_totals, Of, State, blank, Act, Currencies, Terms, Reading}
use Rattle.settlement.specs.Values.{Lent, site, grouped, entry, own_text, text_in, kid, kid_text, missing, required_code, date}
use Rattle.settlement.specs.Tax.{trade_tax_of, allowance_or_charge, logistics}
use Rattle.settlement.specs.Payments.{payment_means_of}
use Rattle.settlement.specs.Summation.{totals, is_none}
use Rattle.settlement.specs.Walk.{said, insert_all}

-- a lane's next state, and nothing else
unfoldable pub quiet : {X S : Type 0} → S → Act X S
quiet s = record { next = s; says = []; holds = []; strays = [] }

module _ {N X : Type 0} (D : Doc N X) where
  -- scheme: schemeID if there, else listID, untrimmed
  unfoldable pub identifier_of : N → Identifier X
  identifier_of n = record { content = own_text D 0 n; scheme = or_else (D.attr n (bytes "schemeID")) (D.attr n (bytes "listID")) }

  -- payee identifier: GlobalID if there, else ID
  unfoldable pub payee_of : N → Payee X
  payee_of n =
      record {
        name = kid_text D 0 n (bytes "Name");
        identifier = maybe none (λ e. some (identifier_of e)) (or_else (kid D n (bytes "GlobalID")) (kid D n (bytes "ID")));
        legal = maybe none (λ o. maybe none (λ e. some (identifier_of e)) (kid D o (bytes "ID"))) (kid D n (bytes "SpecifiedLegalOrganization"));
      }

  -- the kind of a child
  unfoldable pub kind_of : N → Kind
  kind_of n = kind_named (D.bytes (D.name n))

  -- the parent's number, then the name's bytes
  unfoldable pub unmapped_key : Unmapped X → List ℕ
  unmapped_key a = parent_number a.parent ∷ D.bytes a.name

  -- unmapped names ascend by parent, then by name
  unfoldable pub unmapped_order : Unmapped X → Unmapped X → Ordering
  unmapped_order a b = order (unmapped_key a) (unmapped_key b)

module _ {N X : Type 0} (mode : ℕ) (D : Doc N X) where
  -- BG-14: both dates, of the last element
  unfoldable pub period_of : N → Act X (Option Period)
  period_of n =
      let a = date mode D false Path.PeriodStartDateTimeString Path.PeriodStartDateString n (bytes "StartDateTime") in
      let b = date mode D false Path.PeriodEndDateTimeString Path.PeriodEndDateString n (bytes "EndDateTime") in
      record { next = some (record { start = a.0; end = b.0 }); says = a.1 ++ b.1; holds = []; strays = [] }

  -- BT-20 untrimmed, due date, mandate; each later element overwrites all three
  unfoldable pub payment_terms_of : N → Act X (PaymentTerms X)
  payment_terms_of n =
      let d = date mode D false Path.PaymentTermsDueDateTimeString Path.PaymentTermsDueDateString n (bytes "DueDateDateTime") in
      record {
        next = record { note = maybe none D.text (kid D n (bytes "Description")); due = d.0; mandate = kid_text D 0 n (bytes "DirectDebitMandateID") };
        says = d.1;
        holds = [];
        strays = [];
      }

-- BT-5 and BT-6 as read so far
unfoldable pub so_far : {X : Type 0} → State X → Currencies X
so_far s = record { bt5 = s invoice_currency; bt6 = s tax_currency }

-- what any other child sees of them
unfoldable pub unseen : {X : Type 0} → Currencies X
unseen = record { bt5 = none; bt6 = none }

-- only the summation sees them
unfoldable pub seen : {X : Type 0} → Kind → State X → Currencies X
seen k s = cond (same_kind k summation) (so_far s) unseen

-- mandate and creditor identifier join a direct debit, make one where no means exist, else 25, then 26
pub record Debit (X : Type 0) : Type 0 where
  pub means : Means X
  pub mandate : Option X
  pub creditor : Option X
  pub says : List (Entry X)

module _ {X : Type 0} where
  -- beside a card or transfers both are lost and said
  unfoldable pub besides : Means X → Option X → Option X → Debit X
  besides m a c =
      record {
        means = m;
        mandate = none;
        creditor = none;
        says =
            maybe [] (λ x. entry Message.MandateBesideOther (site Path.PaymentTermsDirectDebitMandate none) none ∷ []) a ++
            maybe [] (λ x. entry Message.CreditorBesideOther (site Path.SettlementCreditorReference none) none ∷ []) c;
      }

  -- by the kind of means
  unfoldable pub debited : Means X → Option X → Option X → Debit X
  debited unset a c = record { means = cond (is_none a) (cond (is_none c) unset (debit none)) (debit none); mandate = a; creditor = c; says = [] }
  debited (debit d) a c = record { means = debit d; mandate = a; creditor = c; says = [] }
  debited (card x y) a c = besides (card x y) a c
  debited transfers a c = besides transfers a c

  -- of a state
  unfoldable pub debit_of : State X → Debit X
  debit_of s = debited (s payment_means).means (s payment_terms).mandate (s creditor_reference)

  -- the terms, after all children; BG-16 is there with a payment means, a reference, a mandate or a creditor identifier
  unfoldable pub terms_of : State X → Terms X
  terms_of s =
      record {
        bt5 = s invoice_currency;
        bt6 = s tax_currency;
        bt7 = (s trade_tax).point;
        bt8 = (s trade_tax).code;
        bt9 = (s payment_terms).due;
        bt19 = s accounting;
        bt20 = (s payment_terms).note;
        payee = s payee;
        period = s period;
        paid = (s payment_means).met || (not (is_none (s payment_reference)) || (not (is_none (s payment_terms).mandate) || not (is_none (s creditor_reference))));
        bt81 = (s payment_means).code;
        bt82 = (s payment_means).text;
        bt83 = or none (s payment_reference);
        means = (debit_of s).means;
        bt89 = (debit_of s).mandate;
        bt90 = (debit_of s).creditor;
        totals = or no_totals (s summation);
      }

-- at the end: no summation, then four absences; then 25 and 26
unfoldable pub late_of : {X : Type 0} → ℕ → State X → List (Entry X)
late_of rules s =
    maybe
    (missing rules Rule.Br12 (site Path.SettlementSummation (some Term.Bt106)) ++
    (missing rules Rule.Br13 (site Path.SettlementSummation (some Term.Bt109)) ++
    (missing rules Rule.Br14 (site Path.SettlementSummation (some Term.Bt112)) ++ missing rules Rule.Br15 (site Path.SettlementSummation (some Term.Bt115)))))
    (λ t. []) (s summation) ++
    (debit_of s).says

module _ {N X : Type 0} (L : Lent) (D : Doc N X) where
  -- BG-3: reference, date
  unfoldable pub preceding_of : ℕ → N → Act X ℕ
  preceding_of g n =
      let r = required_code L.rules D Rule.Br55 (grouped Path.SettlementInvoiceReferencedDocument (some Term.Bt25) g) n (bytes "IssuerAssignedID") in
      let d = date L.mode D false Path.ReferencedDocumentIssueDateTimeString Path.ReferencedDocumentIssueDateString n (bytes "FormattedIssueDateTime") in
      record { next = suc g; says = r.1 ++ d.1; holds = preceding (record { reference = r.0; date = d.0 }) ∷ []; strays = [] }

  -- what a child does to the lane l, its home
  unfoldable pub own : (l : Kind) → Bool → Of X l → Currencies X → N → Act X (Of X l)
  own creditor_reference b s cur n = quiet (text_in D 0 n)
  own payment_reference b s cur n = quiet (some (text_in D 0 n))
  own tax_currency b s cur n = quiet (some (own_text D 0 n))
  own invoice_currency b s cur n = quiet (some (own_text D 0 n))
  own payee b s cur n = quiet (some (payee_of D n))
  own payment_means b s cur n = payment_means_of D s n
  own trade_tax b s cur n = trade_tax_of L D s n
  own period b s cur n = period_of L.mode D n
  own allowance_charge b s cur n = cond b (logistics L D s n) (allowance_or_charge L D s n)
  own logistics_charge b s cur n = quiet tt
  own payment_terms b s cur n = payment_terms_of L.mode D n
  own summation b s cur n = totals L D cur n
  own preceding_invoice b s cur n = preceding_of s n
  own accounting b s cur n = quiet (kid_text D 0 n (bytes "ID"))
  own other b s cur n = record { next = tt; says = []; holds = []; strays = record { parent = Parent.Settlement; name = D.name n } ∷ [] }

  -- what a child does on a lane
  unfoldable pub act : (l : Kind) → State X → N → Act X (Of X l)
  act l s n = own l (same_kind (kind_of D n) logistics_charge) (s l) (seen (kind_of D n) s) n

  -- the state after one child more
  unfoldable pub step : State X → N → State X
  step s n = λ l. cond (same_kind l (home (kind_of D n))) (act l s n).next (s l)

  -- the entries of a child
  unfoldable pub says_of : State X → N → List (Entry X)
  says_of s n = (act (home (kind_of D n)) s n).says

  -- its held rows
  unfoldable pub holds_of : State X → N → List (Held X)
  holds_of s n = (act (home (kind_of D n)) s n).holds

  -- its unmapped names
  unfoldable pub strays_of : State X → N → List (Unmapped X)
  strays_of s n = (act (home (kind_of D n)) s n).strays

  -- the state after the children
  unfoldable pub after : List N → State X
  after cs = foldl step (blank X) cs

  -- the reading of a settlement's children
  unfoldable pub reading_of : List N → Reading X
  reading_of cs =
      record {
        terms = terms_of (after cs);
        held = said step holds_of (blank X) cs;
        entries = said step says_of (blank X) cs ++ late_of L.rules (after cs);
        unmapped = insert_all (unmapped_order D) [] (said step strays_of (blank X) cs);
      }

  -- the reading of a settlement
  unfoldable pub reading : N → Reading X
  reading n = reading_of (D.kids n)
