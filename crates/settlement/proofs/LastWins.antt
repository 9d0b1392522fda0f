-- The terms of which the last child of a name decides (document 01, `read.rs`: the last wins, even blank).
use mathlib.Core.Path.{◌≡◌, refl, ap, ap₂, ◌∙◌}
use mathlib.Core.Bool.{Bool, true, false, cond}
use mathlib.Core.List.{List, [], ◌∷◌, foldl}
use mathlib.Core.Option.{Option, none, some}
use Prim.Native.Nat.{ℕ}
use lib.IntN.{pos}
use Rattle.text.specs.Utf8.{bytes}
use Rattle.settlement.specs.Document.{Doc, maybe, or_else, or}
use Rattle.settlement.specs.Kinds.{Kind, creditor_reference, payment_reference, tax_currency, invoice_currency, payee, period, payment_means, payment_terms, summation, accounting}
use Rattle.settlement.specs.Shapes.{Payee, Means, unset, card, debit, transfers, PaymentTerms, Period, Totals, no_totals, Of, State, blank, Currencies}
use Rattle.settlement.specs.Values.{Lent, own_text, text_in, kid, kid_text}
use Rattle.settlement.specs.Summation.{totals}
use Rattle.settlement.specs.Settlement.{payee_of, quiet, period_of, payment_terms_of, own, act, step, besides, debited, debit_of, after, terms_of, reading_of}
use Rattle.settlement.specs.Last.{is_named, last_that, last_named, of_debit}
use Rattle.settlement.specs.ChildRows.{amount_or_zero, day_in}
use Rattle.settlement.proofs.Names.{kind_name, Own, own_of, at_home}
use Rattle.settlement.proofs.PlainValues.{required_is, date_is}

-- a walk that forgets what it had at each child that passes a test: the last of them decides
pub last_walk : {N S B : Type 0} (step : S → N → S) (has : S → B) (t : N → Bool) (f : N → B) → ((s : S) (n : N) → has (step s n) ≡ cond (t n) (f n) (has s)) → (s : S) (cs : List N) → has (foldl step s cs) ≡ maybe (has s) f (last_that t cs)
unfolding last_that
last_walk step has t f h s [] = refl
last_walk {N} {S} {B} step has t f h s (c ∷ cs) = last_walk step has t f h (step s c) cs ∙ go (last_that t cs) (t c) (h s c)
  where
    go : (r : Option N) (b : Bool) {a : B} → a ≡ cond b (f c) (has s) → maybe a f r ≡ maybe (has s) f (or_else r (cond b (some c) none))
    go none true e = e
    go none false e = e
    go (some n) b e = refl

module _ {N X : Type 0} (L : Lent) (D : Doc N X) where
  -- what a lane forgets, its last child makes
  lane_last : {B : Type 0} (l : Kind) → Own l → (has : Of X l → B) (f : N → B) → ((b : Bool) (s : Of X l) (cur : Currencies X) (n : N) → has (own L D l b s cur n).next ≡ f n) → (s : State X) (cs : List N) → has (foldl (step L D) s cs l) ≡ maybe (has (s l)) f (last_named D (kind_name l) cs)
  unfolding last_named step act
  lane_last l o has f forgets s cs = last_walk (step L D) (λ (t : State X). has (t l)) (is_named D (kind_name l)) f (λ t n. rw (at_home L D l o n) (go t n (is_named D (kind_name l) n))) s cs
    where
      go : (t : State X) (n : N) (b : Bool) → has (cond b (act L D l t n).next (t l)) ≡ cond b (f n) (has (t l))
      go t n true = forgets _ (t l) _ n
      go t n false = refl

-- mandate and creditor identifier stand in a direct debit alone
module _ {X : Type 0} where
  debited_mandate : (m : Means X) (a c : Option X) → (debited m a c).mandate ≡ of_debit (debited m a c).means a
  unfolding debited besides
  debited_mandate unset none none = refl
  debited_mandate unset none (some x) = refl
  debited_mandate unset (some x) c = refl
  debited_mandate (card x y) a c = refl
  debited_mandate (debit x) a c = refl
  debited_mandate transfers a c = refl

  debited_creditor : (m : Means X) (a c : Option X) → (debited m a c).creditor ≡ of_debit (debited m a c).means c
  unfolding debited besides
  debited_creditor unset none none = refl
  debited_creditor unset none (some x) = refl
  debited_creditor unset (some x) c = refl
  debited_creditor (card x y) a c = refl
  debited_creditor (debit x) a c = refl
  debited_creditor transfers a c = refl

module _ {N X : Type 0} (L : Lent) (D : Doc N X) (cs : List N) where
  -- BT-5 is the trimmed text of the last InvoiceCurrencyCode, "" where that is blank
  pub bt5_last : (reading_of L D cs).terms.bt5 ≡ maybe none (λ n. some (own_text D 0 n)) (last_named D "InvoiceCurrencyCode" cs)
  unfolding reading_of terms_of after own quiet
  bt5_last = lane_last L D invoice_currency (own_of invoice_currency tt) (λ (s : Option X). s) (λ n. some (own_text D 0 n)) (λ b s cur n. refl) (blank X) cs

  -- BT-6 of the last TaxCurrencyCode, alike
  pub bt6_last : (reading_of L D cs).terms.bt6 ≡ maybe none (λ n. some (own_text D 0 n)) (last_named D "TaxCurrencyCode" cs)
  unfolding reading_of terms_of after own quiet
  bt6_last = lane_last L D tax_currency (own_of tax_currency tt) (λ (s : Option X). s) (λ n. some (own_text D 0 n)) (λ b s cur n. refl) (blank X) cs

  -- the last PaymentReference
  pub reference_last : after L D cs payment_reference ≡ maybe none (λ n. some (text_in D 0 n)) (last_named D "PaymentReference" cs)
  unfolding after own quiet
  reference_last = lane_last L D payment_reference (own_of payment_reference tt) (λ (s : Option (Option X)). s) (λ n. some (text_in D 0 n)) (λ b s cur n. refl) (blank X) cs

  -- BT-83 is its trimmed text, absent where that is blank
  pub bt83_last : (reading_of L D cs).terms.bt83 ≡ maybe none (λ n. text_in D 0 n) (last_named D "PaymentReference" cs)
  unfolding reading_of terms_of after own quiet
  bt83_last = lane_last L D payment_reference (own_of payment_reference tt) (or none) (λ n. text_in D 0 n) (λ b s cur n. refl) (blank X) cs

  -- BT-19 is the ID of the last accounting account
  pub bt19_last : (reading_of L D cs).terms.bt19 ≡ maybe none (λ n. kid_text D 0 n (bytes "ID")) (last_named D "ReceivableSpecifiedTradeAccountingAccount" cs)
  unfolding reading_of terms_of after own quiet
  bt19_last = lane_last L D accounting (own_of accounting tt) (λ (s : Option X). s) (λ n. kid_text D 0 n (bytes "ID")) (λ b s cur n. refl) (blank X) cs

  -- BG-10 is that of the last payee
  pub payee_last : (reading_of L D cs).terms.payee ≡ maybe none (λ n. some (payee_of D n)) (last_named D "PayeeTradeParty" cs)
  unfolding reading_of terms_of after own quiet
  payee_last = lane_last L D payee (own_of payee tt) (λ (s : Option (Payee X)). s) (λ n. some (payee_of D n)) (λ b s cur n. refl) (blank X) cs

  -- BG-14 has the dates of the last period
  pub period_last : (reading_of L D cs).terms.period ≡ maybe none (λ n. some (record { start = day_in L.mode D n (bytes "StartDateTime"); end = day_in L.mode D n (bytes "EndDateTime") })) (last_named D "BillingSpecifiedPeriod" cs)
  unfolding reading_of terms_of after own period_of
  period_last =
      lane_last L D period (own_of period tt) (λ (s : Option Period). s)
      (λ n. some (record { start = day_in L.mode D n (bytes "StartDateTime"); end = day_in L.mode D n (bytes "EndDateTime") }))
      (λ b s cur n. ap₂ (λ (a z : Option ℕ). some (record { start = a; end = z })) (date_is L.mode D _ _ _ n (bytes "StartDateTime")) (date_is L.mode D _ _ _ n (bytes "EndDateTime"))) (blank X) cs

  -- BT-20 is the untrimmed description of the last payment terms
  pub bt20_last : (reading_of L D cs).terms.bt20 ≡ maybe none (λ n. maybe none D.text (kid D n (bytes "Description"))) (last_named D "SpecifiedTradePaymentTerms" cs)
  unfolding reading_of terms_of after own payment_terms_of
  bt20_last = lane_last L D payment_terms (own_of payment_terms tt) (λ (s : PaymentTerms X). s.note) (λ n. maybe none D.text (kid D n (bytes "Description"))) (λ b s cur n. refl) (blank X) cs

  -- BT-9 is their due date
  pub bt9_last : (reading_of L D cs).terms.bt9 ≡ maybe none (λ n. day_in L.mode D n (bytes "DueDateDateTime")) (last_named D "SpecifiedTradePaymentTerms" cs)
  unfolding reading_of terms_of after own payment_terms_of
  bt9_last = lane_last L D payment_terms (own_of payment_terms tt) (λ (s : PaymentTerms X). s.due) (λ n. day_in L.mode D n (bytes "DueDateDateTime")) (λ b s cur n. date_is L.mode D _ _ _ n (bytes "DueDateDateTime")) (blank X) cs

  -- their mandate
  pub mandate_last : (after L D cs payment_terms).mandate ≡ maybe none (λ n. kid_text D 0 n (bytes "DirectDebitMandateID")) (last_named D "SpecifiedTradePaymentTerms" cs)
  unfolding after own payment_terms_of
  mandate_last = lane_last L D payment_terms (own_of payment_terms tt) (λ (s : PaymentTerms X). s.mandate) (λ n. kid_text D 0 n (bytes "DirectDebitMandateID")) (λ b s cur n. refl) (blank X) cs

  -- the last creditor identifier
  pub creditor_last : after L D cs creditor_reference ≡ maybe none (λ n. text_in D 0 n) (last_named D "CreditorReferenceID" cs)
  unfolding after own quiet
  creditor_last = lane_last L D creditor_reference (own_of creditor_reference tt) (λ (s : Option X). s) (λ n. text_in D 0 n) (λ b s cur n. refl) (blank X) cs

  -- BT-89 is their mandate, where the means is a direct debit
  pub bt89_last : (reading_of L D cs).terms.bt89 ≡ of_debit (reading_of L D cs).terms.means (maybe none (λ n. kid_text D 0 n (bytes "DirectDebitMandateID")) (last_named D "SpecifiedTradePaymentTerms" cs))
  unfolding reading_of terms_of debit_of
  bt89_last = debited_mandate (after L D cs payment_means).means (after L D cs payment_terms).mandate (after L D cs creditor_reference) ∙ ap (of_debit (reading_of L D cs).terms.means) mandate_last

  -- BT-90 is the trimmed text of the last CreditorReferenceID, alike
  pub bt90_last : (reading_of L D cs).terms.bt90 ≡ of_debit (reading_of L D cs).terms.means (maybe none (λ n. text_in D 0 n) (last_named D "CreditorReferenceID" cs))
  unfolding reading_of terms_of debit_of
  bt90_last = debited_creditor (after L D cs payment_means).means (after L D cs payment_terms).mandate (after L D cs creditor_reference) ∙ ap (of_debit (reading_of L D cs).terms.means) creditor_last

  -- an amount that the last summation has, whatever BT-5 and BT-6 were
  pub total_last : {B : Type 0} (has : Totals → B) (f : N → B) → ((cur : Currencies X) (n : N) → has (or no_totals (totals L D cur n).next) ≡ f n) → has (reading_of L D cs).terms.totals ≡ maybe (has no_totals) f (last_named D "SpecifiedTradeSettlementHeaderMonetarySummation" cs)
  unfolding reading_of terms_of after own
  total_last has f h = lane_last L D summation (own_of summation tt) (λ (s : Option Totals). has (or no_totals s)) f (λ b s cur n. h cur n) (blank X) cs

  -- BT-106 is the LineTotalAmount of the last summation, 0 where it is missing or can't be read
  pub bt106_last : (reading_of L D cs).terms.totals.line ≡ maybe (pos 0) (λ n. amount_or_zero L D n (bytes "LineTotalAmount")) (last_named D "SpecifiedTradeSettlementHeaderMonetarySummation" cs)
  unfolding totals
  bt106_last = total_last (λ (t : Totals). t.line) (λ n. amount_or_zero L D n (bytes "LineTotalAmount")) (λ cur n. required_is L D _ _ _ n (bytes "LineTotalAmount"))

  -- BT-109 its TaxBasisTotalAmount
  pub bt109_last : (reading_of L D cs).terms.totals.taxable ≡ maybe (pos 0) (λ n. amount_or_zero L D n (bytes "TaxBasisTotalAmount")) (last_named D "SpecifiedTradeSettlementHeaderMonetarySummation" cs)
  unfolding totals
  bt109_last = total_last (λ (t : Totals). t.taxable) (λ n. amount_or_zero L D n (bytes "TaxBasisTotalAmount")) (λ cur n. required_is L D _ _ _ n (bytes "TaxBasisTotalAmount"))

  -- BT-112 its GrandTotalAmount
  pub bt112_last : (reading_of L D cs).terms.totals.gross ≡ maybe (pos 0) (λ n. amount_or_zero L D n (bytes "GrandTotalAmount")) (last_named D "SpecifiedTradeSettlementHeaderMonetarySummation" cs)
  unfolding totals
  bt112_last = total_last (λ (t : Totals). t.gross) (λ n. amount_or_zero L D n (bytes "GrandTotalAmount")) (λ cur n. required_is L D _ _ _ n (bytes "GrandTotalAmount"))

  -- BT-115 its DuePayableAmount
  pub bt115_last : (reading_of L D cs).terms.totals.due ≡ maybe (pos 0) (λ n. amount_or_zero L D n (bytes "DuePayableAmount")) (last_named D "SpecifiedTradeSettlementHeaderMonetarySummation" cs)
  unfolding totals
  bt115_last = total_last (λ (t : Totals). t.due) (λ n. amount_or_zero L D n (bytes "DuePayableAmount")) (λ cur n. required_is L D _ _ _ n (bytes "DuePayableAmount"))
