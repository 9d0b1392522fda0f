-- What a child of a settlement makes is paid for by the child and its own children: four entries, a row and an unmapped name for each of them.
use mathlib.Core.Bool.{Bool, true, false, cond}
use Prim.Native.Nat.{ℕ, ◌+◌, ◌*◌, ◌≤◌}
use native.Mathlib.Omega.{arith}
use native.Mathlib.Nat.{add-le-add, le_trans}
use lib.ListN.{length, length-append}
use Rattle.text.specs.Utf8.{bytes}
use Rattle.settlement.specs.Document.{Doc}
use Rattle.settlement.specs.Kinds.{Kind, creditor_reference, payment_reference, tax_currency, invoice_currency, payee, payment_means, trade_tax, period, allowance_charge, logistics_charge, payment_terms, summation, preceding_invoice, accounting, other, same_kind, home}
use Rattle.settlement.specs.Shapes.{Of, State, Act, Currencies}
use Rattle.settlement.specs.Values.{Lent, text_in}
use Rattle.settlement.specs.Tax.{trade_tax_of, allowance_or_charge}
use Rattle.settlement.specs.Summation.{totals}
use Rattle.settlement.specs.Settlement.{quiet, period_of, payment_terms_of, preceding_of, own, kind_of, seen, act, step, says_of, holds_of, strays_of}
use Rattle.settlement.proofs.Bounds.{one, one_most, any, kid_text_any, required_code_most, date_any, trade_tax_most, allowance_or_charge_most, logistics_most, logistics-row, logistics_stray}
use Rattle.settlement.proofs.InnerBounds.{means_says, means_rows, means_strays, totals_says, totals_strays}

-- the entries that a lane may still make at the end: 26 for a creditor identifier, 25 for a mandate
abbrev pub pledged : (X : Type 0) (k : Kind) → Of X k → ℕ
pledged X creditor_reference s = one s
pledged X payment_reference s = 0
pledged X tax_currency s = 0
pledged X invoice_currency s = 0
pledged X payee s = 0
pledged X payment_means s = 0
pledged X trade_tax s = 0
pledged X period s = 0
pledged X allowance_charge s = 0
pledged X logistics_charge s = 0
pledged X payment_terms s = one s.mandate
pledged X summation s = 0
pledged X preceding_invoice s = 0
pledged X accounting s = 0
pledged X other s = 0

-- w elements pay for what a child makes: four entries, with p more that are pledged, a row and an unmapped name for each
record Light {X S : Type 0} (w p : ℕ) (a : Act X S) : Type 0 where
  says : length a.says + p ≤ 4 * w
  holds : length a.holds ≤ w
  strays : length a.strays ≤ w

module _ {N X : Type 0} (L : Lent) (D : Doc N X) where
  -- a child and its own children
  abbrev pub weight : N → ℕ
  weight n = 1 + length (D.kids n)

  -- a period says at most two for each date
  period_most : (n : N) → length (period_of L.mode D n).says ≤ 4 * any L D n
  unfolding period_of
  period_most n = simp length-append (le_trans (add-le-add (date_any L D false _ _ n (bytes "StartDateTime")) (date_any L D false _ _ n (bytes "EndDateTime"))) (omega arith))

  -- payment terms say at most two, and pledge one for the mandate
  payment_terms_most : (n : N) → length (payment_terms_of L.mode D n).says + one (payment_terms_of L.mode D n).next.mandate ≤ 3 * any L D n
  unfolding payment_terms_of
  payment_terms_most n = le_trans (add-le-add (date_any L D false _ _ n (bytes "DueDateDateTime")) (kid_text_any L D 0 n (bytes "DirectDebitMandateID"))) (omega arith)

  -- a preceding invoice says at most one, and two for its date
  preceding_most : (g : ℕ) (n : N) → length (preceding_of L D g n).says ≤ 1 + 2 * any L D n
  unfolding preceding_of
  preceding_most g n = simp length-append (add-le-add (required_code_most L D _ _ n (bytes "IssuerAssignedID")) (date_any L D false _ _ n (bytes "FormattedIssueDateTime")))

  -- a child that only changes its lane makes nothing, and pledges one at most
  quiet_light : {S : Type 0} (s : S) (p : ℕ) (n : N) → p ≤ 1 → Light {X = X} (weight n) p (quiet s)
  unfolding quiet
  quiet_light s p n h = record { says = omega arith; holds = omega arith; strays = omega arith }

  -- a child of any kind
  own_light : (k : Kind) (b : Bool) (s : Of X k) (cur : Currencies X) (n : N) → Light (weight n) (pledged X k (own L D k b s cur n).next) (own L D k b s cur n)
  unfolding own
  own_light creditor_reference b s cur n = unfold quiet in quiet_light _ _ n (one_most (text_in D 0 n))
  own_light payment_reference b s cur n = quiet_light _ _ n (omega arith)
  own_light tax_currency b s cur n = quiet_light _ _ n (omega arith)
  own_light invoice_currency b s cur n = quiet_light _ _ n (omega arith)
  own_light payee b s cur n = quiet_light _ _ n (omega arith)
  own_light payment_means b s cur n = record { says = omega (arith, means_says L D s n); holds = omega (arith, means_rows L D s n); strays = omega (arith, means_strays L D s n) }
  own_light trade_tax b s cur n = record { says = omega (arith, trade_tax_most L D s n); holds = unfold trade_tax_of in omega arith; strays = unfold trade_tax_of in omega arith }
  own_light period b s cur n = record { says = omega (arith, period_most n); holds = unfold period_of in omega arith; strays = unfold period_of in omega arith }
  own_light allowance_charge true s cur n = record { says = omega (arith, logistics_most L D s n); holds = omega (arith, logistics-row L D s n); strays = omega (arith, logistics_stray L D s n) }
  own_light allowance_charge false s cur n = record { says = omega (arith, allowance_or_charge_most L D s n); holds = unfold allowance_or_charge in omega arith; strays = unfold allowance_or_charge in omega arith }
  own_light logistics_charge b s cur n = quiet_light _ _ n (omega arith)
  own_light payment_terms b s cur n = record { says = omega (arith, payment_terms_most n); holds = unfold payment_terms_of in omega arith; strays = unfold payment_terms_of in omega arith }
  own_light summation b s cur n = record { says = omega (arith, totals_says L D cur n); holds = unfold totals in omega arith; strays = omega (arith, totals_strays L D cur n) }
  own_light preceding_invoice b s cur n = record { says = omega (arith, preceding_most s n); holds = unfold preceding_of in omega arith; strays = unfold preceding_of in omega arith }
  own_light accounting b s cur n = quiet_light _ _ n (omega arith)
  own_light other b s cur n = record { says = omega arith; holds = omega arith; strays = omega arith }

  -- its held rows
  pub holds_weight : (s : State X) (n : N) → length (holds_of L D s n) ≤ weight n
  unfolding holds_of act
  holds_weight s n = (own_light (home (kind_of D n)) _ _ _ n).holds

  -- its unmapped names
  pub strays_weight : (s : State X) (n : N) → length (strays_of L D s n) ≤ weight n
  unfolding strays_of act
  strays_weight s n = (own_light (home (kind_of D n)) _ _ _ n).strays

  -- what is pledged in a state
  abbrev pub pledges : State X → ℕ
  pledges s = pledged X creditor_reference (s creditor_reference) + pledged X payment_terms (s payment_terms)

  -- what is pledged in other lanes stays
  step_pledges : (k : Kind) (b : Bool) (cur : Currencies X) (s : State X) (n : N) →
      length (own L D k b (s k) cur n).says +
      (pledged X creditor_reference (cond (same_kind creditor_reference k) (own L D creditor_reference b (s creditor_reference) cur n).next (s creditor_reference)) +
      pledged X payment_terms (cond (same_kind payment_terms k) (own L D payment_terms b (s payment_terms) cur n).next (s payment_terms))) ≤ 4 * weight n + pledges s
  unfolding same_kind
  step_pledges creditor_reference b cur s n = omega (arith, (own_light creditor_reference b (s creditor_reference) cur n).says)
  step_pledges payment_reference b cur s n = omega (arith, (own_light payment_reference b (s payment_reference) cur n).says)
  step_pledges tax_currency b cur s n = omega (arith, (own_light tax_currency b (s tax_currency) cur n).says)
  step_pledges invoice_currency b cur s n = omega (arith, (own_light invoice_currency b (s invoice_currency) cur n).says)
  step_pledges payee b cur s n = omega (arith, (own_light payee b (s payee) cur n).says)
  step_pledges payment_means b cur s n = omega (arith, (own_light payment_means b (s payment_means) cur n).says)
  step_pledges trade_tax b cur s n = omega (arith, (own_light trade_tax b (s trade_tax) cur n).says)
  step_pledges period b cur s n = omega (arith, (own_light period b (s period) cur n).says)
  step_pledges allowance_charge b cur s n = omega (arith, (own_light allowance_charge b (s allowance_charge) cur n).says)
  step_pledges logistics_charge b cur s n = omega (arith, (own_light logistics_charge b (s logistics_charge) cur n).says)
  step_pledges payment_terms b cur s n = omega (arith, (own_light payment_terms b (s payment_terms) cur n).says)
  step_pledges summation b cur s n = omega (arith, (own_light summation b (s summation) cur n).says)
  step_pledges preceding_invoice b cur s n = omega (arith, (own_light preceding_invoice b (s preceding_invoice) cur n).says)
  step_pledges accounting b cur s n = omega (arith, (own_light accounting b (s accounting) cur n).says)
  step_pledges other b cur s n = omega (arith, (own_light other b (s other) cur n).says)

  -- what a child says, with what is pledged after it, is paid for by what was pledged and by the child
  pub says_weight : (s : State X) (n : N) → length (says_of L D s n) + pledges (step L D s n) ≤ 4 * weight n + pledges s
  unfolding says_of step act
  says_weight s n = step_pledges (home (kind_of D n)) _ (seen (kind_of D n) s) s n
