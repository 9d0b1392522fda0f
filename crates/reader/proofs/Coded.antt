-- A call for every input: the code's result whose meaning is the outcome's, and the lists as they are promised.
use Rattle.text.specs.Options.{option_of}
use mathlib.Core.Path.{◌≡◌, refl, ap}
use mathlib.Core.Bool.{Bool, true, cond}
use mathlib.Core.List.{List}
use mathlib.Core.Option.{Option, none, some}
use Prim.Native.Nat.{ℕ, ◌+◌}
use native.Mathlib.Omega.{arith}
use borrow.Author.Tests.{eqb-true}
use lib.Dec.{eqb}
use lib.IntN.{ℤ}
use lib.ListN.{length}
use Rattle.report.specs.Rows.{Place}
use Rattle.report.specs.Encoding.{rows_then}
use Rattle.report.specs.Values.{place_of, text_of, amount_of}
use Rattle.report.specs.declared.value.Place as CodePlace
use Rattle.refusals.specs.Refusals.{record_refusal, size_refusal, refusal}
use Rattle.refusals.specs.Reasons.{number}
use Rattle.refusals.specs.declared.reasons.Reason.{Reason}
use Rattle.refusals.specs.declared.reasons.Reason.TheVariants.{Mode, Rules, Ragged, Oversized, NotRoot, Misplaced, Outside, NotUtf8, NotSettlement, Cramped}
use Rattle.refusals.specs.declared.reasons.Refusal.{Refusal}
use Rattle.settlement.specs.Shapes.{Identifier, Payee, Means, unset, card, debit, transfers, Period, Totals, Terms, Reading}
use Rattle.settlement.specs.Values.{Lent}
use Rattle.settlement.specs.Settlement.{reading}
use Rattle.settlement.specs.TableDoc.{table_doc}
use Rattle.settlement.specs.Outcome.{Room, Outcome, refused, read, call_refusal, unless, outcome}
use Rattle.settlement.specs.Result.{result_of}
use Rattle.settlement.proofs.Results.{refuses_as, none_as, refuse_as, either_as, either_way}
use Rattle.groups.specs.Groups.{maybe_identifier_of}
use Rattle.payment.specs.Walks.{means_of}
use Rattle.payment.specs.declared.paying.Means as CodeMeans
use Rattle.payment.specs.declared.paying.Means.TheVariants as Variant
use Rattle.totals.specs.Reading.{totals_of}
use Rattle.totals.specs.declared.state.Totals as CodeTotals
use Rattle.steps.specs.States.{maybe_payee_of, maybe_period_of}
use Rattle.terms.specs.Terms.{terms_of}
use Rattle.terms.specs.declared.terms.Terms as CodeTerms
use Rattle.reader.specs.Answers.{answer_of}
use Rattle.reader.specs.Answered.{room_of, Answered}
use Rattle.reader.specs.Calls.{Call, Promised}
use Rattle.reader.specs.declared.reading.Reading as Code
use Rattle.std.specs.declared.option.Option as Maybe
use Rattle.std.specs.Prelude.{None, Some, Result, Ok, Err}
use Rattle.amount.specs.declared.amount.InvoiceAmount.{InvoiceAmount}
use Rattle.groups.specs.declared.shapes.Identifier as CodeIdentifier
use Rattle.groups.specs.declared.shapes.Payee as CodePayee
use Rattle.groups.specs.declared.shapes.Period as CodePeriod

-- the code's value for each value of the definition, and that it means just that
abbrev place_at : ℕ → ℕ → Place
place_at s n = record { start = s; len = n }

unfoldable pub code_place : Place → CodePlace.Place
code_place p = record { start = p.start; skip = 0; len = p.len }

place_coded : (p : Place) → place_of (code_place p) ≡ p
unfolding code_place
place_coded p = ap (λ (s : ℕ). place_at s p.len) {x = p.start + 0} {y = p.start} (omega arith)

unfoldable pub code_text : Option Place → Maybe.Option CodePlace.Place
code_text none = None
code_text (some p) = Some (code_place p)

text_coded : (t : Option Place) → text_of (code_text t) ≡ t
unfolding code_text
text_coded none = refl
text_coded (some p) = ap some (place_coded p)

unfoldable pub code_day : Option ℕ → Maybe.Option ℕ
code_day none = None
code_day (some d) = Some d

day_coded : (d : Option ℕ) → option_of (code_day d) ≡ d
unfolding code_day
day_coded none = refl
day_coded (some d) = refl

unfoldable pub code_amount : Option ℤ → Maybe.Option InvoiceAmount
code_amount none = None
code_amount (some a) = Some (record { 0 = a })

amount_coded : (a : Option ℤ) → amount_of (code_amount a) ≡ a
unfolding code_amount
amount_coded none = refl
amount_coded (some a) = refl

unfoldable pub code_identifier : Option (Identifier Place) → Maybe.Option CodeIdentifier.Identifier
code_identifier none = None
code_identifier (some i) = Some (record { content = code_place i.content; scheme = code_text i.scheme })

identifier_coded : (i : Option (Identifier Place)) → maybe_identifier_of (code_identifier i) ≡ i
unfolding code_identifier
identifier_coded none = refl
identifier_coded (some i) = rw (place_coded i.content, text_coded i.scheme)

unfoldable pub code_payee : Option (Payee Place) → Maybe.Option CodePayee.Payee
code_payee none = None
code_payee (some p) = Some (record { name = code_text p.name; identifier = code_identifier p.identifier; legal = code_identifier p.legal })

payee_coded : (p : Option (Payee Place)) → maybe_payee_of (code_payee p) ≡ p
unfolding code_payee
payee_coded none = refl
payee_coded (some p) = rw (text_coded p.name, identifier_coded p.identifier, identifier_coded p.legal)

unfoldable pub code_period : Option Period → Maybe.Option CodePeriod.Period
code_period none = None
code_period (some p) = Some (record { start = code_day p.start; end = code_day p.end })

period_coded : (p : Option Period) → maybe_period_of (code_period p) ≡ p
unfolding code_period
period_coded none = refl
period_coded (some p) = rw (day_coded p.start, day_coded p.end)

unfoldable pub code_means : Means Place → CodeMeans.Means
code_means unset = Variant.Unset
code_means (card a b) = Variant.Card (record { number = code_text a; holder = code_text b })
code_means (debit a) = Variant.Debit (code_text a)
code_means transfers = Variant.Transfers

means_coded : (m : Means Place) → means_of (code_means m) ≡ m
unfolding code_means
means_coded unset = refl
means_coded (card a b) = rw (text_coded a, text_coded b)
means_coded (debit a) = rw (text_coded a)
means_coded transfers = refl

unfoldable pub code_totals : Totals → CodeTotals.Totals
code_totals t =
    record {
      line = record { 0 = t.line };
      taxable = record { 0 = t.taxable };
      gross = record { 0 = t.gross };
      due = record { 0 = t.due };
      sums = record { allowance = code_amount t.allowance; charge = code_amount t.charge; vat = code_amount t.vat; accounting = code_amount t.vat_accounting; paid = code_amount t.paid; rounding = code_amount t.rounding };
    }

totals_coded : (t : Totals) → totals_of (code_totals t) ≡ t
unfolding code_totals
totals_coded t = rw (amount_coded t.allowance, amount_coded t.charge, amount_coded t.vat, amount_coded t.vat_accounting, amount_coded t.paid, amount_coded t.rounding)

unfoldable pub code_terms : Terms Place → CodeTerms.Terms
code_terms t =
    record {
      bt5 = code_text t.bt5;
      bt6 = code_text t.bt6;
      bt7 = code_day t.bt7;
      bt8 = code_day t.bt8;
      bt9 = code_day t.bt9;
      bt19 = code_text t.bt19;
      bt20 = code_text t.bt20;
      payee = code_payee t.payee;
      period = code_period t.period;
      paid = t.paid;
      bt81 = code_text t.bt81;
      bt82 = code_text t.bt82;
      bt83 = code_text t.bt83;
      means = code_means t.means;
      bt89 = code_text t.bt89;
      bt90 = code_text t.bt90;
      totals = code_totals t.totals;
    }

terms_coded : (t : Terms Place) → terms_of (code_terms t) ≡ t
unfolding code_terms
terms_coded t = simp (text_coded, day_coded, payee_coded, period_coded, means_coded, totals_coded)

-- the reason of a number
unfoldable pub code_reason : ℕ → Reason
code_reason n =
    cond (eqb n 1) Mode
    (cond (eqb n 2) Rules
    (cond (eqb n 3) Ragged
    (cond (eqb n 4) Oversized
    (cond (eqb n 5) NotRoot
    (cond (eqb n 6) Misplaced (cond (eqb n 7) Outside (cond (eqb n 8) NotUtf8 (cond (eqb n 9) NotSettlement Cramped))))))))

-- a refusal's number is that of its reason
unfoldable own_number : ℕ → Bool
own_number n = eqb (number (code_reason n)) n

unfoldable reason_coded : Option (ℕ × ℕ) → Bool
reason_coded = refuses_as own_number

-- as for all ten
call_coded : (L : Lent) (m : Room) (t x : List ℕ) → reason_coded (call_refusal L m t x) ≡ true
unfolding reason_coded own_number call_refusal refusal size_refusal record_refusal code_reason
call_coded L m t x = simp (refuse_as, either_as, none_as, either_way)

-- what the code answers for an outcome
abbrev pub code_answer : Outcome → Result Code.Reading Refusal
code_answer (refused n j) = Err (record { reason = code_reason n; «record» = j })
code_answer (read r) = Ok (record { held = length r.held; entries = length r.entries; unmapped = length r.unmapped; terms = code_terms r.terms })

-- what it answers means that outcome
answer_coded :
    (n : Option (ℕ × ℕ)) (r : Reading Place) → reason_coded n ≡ true → (h e u : List ℤ) →
    Answered (unless n r) (answer_of (code_answer (unless n r))) h (rows_then (result_of (unless n r)).held h) e (rows_then (result_of (unless n r)).entries e) u (rows_then (result_of (unless n r)).unmapped u)
unfolding result_of refuses_as own_number reason_coded
answer_coded none r p h e u =
    record { refusal = refl; place = refl; terms = terms_coded r.terms; held_count = refl; entry_count = refl; unmapped_count = refl; held_rows = refl; entry_rows = refl; unmapped_rows = refl }
answer_coded (some n) r p h e u =
    record { refusal = eqb-true _ _ p; place = refl; terms = refl; held_count = refl; entry_count = refl; unmapped_count = refl; held_rows = refl; entry_rows = refl; unmapped_rows = refl }

module _ (L : Lent) (t x : List ℕ) (h e u : List ℤ) where
  abbrev told : Outcome
  told = outcome L (room_of h e u) t x

  -- the call of an input
  abbrev pub call_of : Call
  call_of =
      record {
        table = t;
        text = x;
        held = h;
        entries = e;
        unmapped = u;
        answer = answer_of (code_answer told);
        held' = rows_then (result_of told).held h;
        entries' = rows_then (result_of told).entries e;
        unmapped' = rows_then (result_of told).unmapped u;
      }

  -- does what `read` promises
  pub call_promised : Promised L call_of
  unfolding outcome
  call_promised = answer_coded (call_refusal L (room_of h e u) t x) (reading L (table_doc t x) 0) (call_coded L (room_of h e u) t x) h e u
