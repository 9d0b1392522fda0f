-- Each child makes at most one row of each group more.
use mathlib.Core.Path.{◌≡◌, ap}
use mathlib.Core.Bool.{Bool, true, false, cond}
use Prim.Native.Nat.{ℕ, ◌+◌, ◌≤◌}
use native.Mathlib.Omega.{arith}
use Rattle.report.specs.Rows.{Place}
use Rattle.settlement.specs.Document.{Doc}
use Rattle.settlement.specs.Kinds.{Kind, trade_tax, allowance_charge, preceding_invoice, same_kind, home}
use Rattle.settlement.specs.Shapes.{VatState, Counts, Of, State, Currencies}
use Rattle.settlement.specs.Settlement.{own, preceding_of}
use Rattle.settlement.specs.Tax.{is_charge, counted, trade_tax_of, allowance_or_charge, logistics, logistics_read, logistics_left}
use Rattle.settlement.specs.Values.{Lent}
use Rattle.children.specs.Counts.{Counted}
use Rattle.steps.specs.States.{state_of}
use Rattle.steps.specs.Steps.{act_by, step_by}
use Rattle.steps.specs.declared.state.State as Code
use Rattle.steps.specs.declared.state.Tally.{Tally}

-- so many more allowances and charges
pub record OneMore (s r : Counts) : Type 0 where
  pub allowances : r.allowances ≤ s.allowances + 1
  pub charges : r.charges ≤ s.charges + 1

counted_one : (b : Bool) (s : Counts) → OneMore s (counted b s)
unfolding counted
counted_one true s = record { allowances = omega arith; charges = omega arith }
counted_one false s = record { allowances = omega arith; charges = omega arith }

module _ (L : Lent) (D : Doc ℕ Place) (c : ℕ) where
  logistics_one : (s : Counts) → OneMore s (logistics L D s c).next
  unfolding logistics logistics_read logistics_left
  logistics_one s = go L.extension
    where
      go : (b : Bool) → OneMore s (cond b (logistics_read L D s c) (logistics_left s)).next
      go true = counted_one true s
      go false = record { allowances = omega arith; charges = omega arith }

  own_counts : (b : Bool) (s : Counts) (cur : Currencies Place) → OneMore s (own L D allowance_charge b s cur c).next
  unfolding own allowance_or_charge
  own_counts true s cur = logistics_one s
  own_counts false s cur = counted_one (is_charge D c).0 s

  -- what a step makes of a count on a lane
  lane_count : (l : Kind) (f : Of Place l → ℕ) → ((b : Bool) (s : Of Place l) (cur : Currencies Place) → f (own L D l b s cur c).next ≤ f s + 1) → (k : Kind) (s : State Place) → f (step_by L D k s c l) ≤ f (s l) + 1
  unfolding step_by act_by
  lane_count l f h k s = go (same_kind l (home k))
    where
      go : (b : Bool) → f (cond b (act_by L D k l s c).next (s l)) ≤ f (s l) + 1
      go true = h _ (s l) _
      go false = omega arith

  -- one child more
  pub counted_more : (k : Kind) (s r : Code.State) {n : ℕ} → state_of r ≡ step_by L D k (state_of s) c → Counted s.tally n → Counted r.tally (n + 1)
  unfolding own trade_tax_of preceding_of
  counted_more k s r e p =
      record {
        breakdowns = omega (arith, p.breakdowns, ap (λ (v : State Place). (v trade_tax).count) e, lane_count trade_tax (λ (v : VatState Place). v.count) (λ b v cur. omega arith) k (state_of s));
        allowances = omega (arith, p.allowances, ap (λ (v : State Place). (v allowance_charge).allowances) e, lane_count allowance_charge (λ (v : Counts). v.allowances) (λ b v cur. (own_counts b v cur).allowances) k (state_of s));
        charges = omega (arith, p.charges, ap (λ (v : State Place). (v allowance_charge).charges) e, lane_count allowance_charge (λ (v : Counts). v.charges) (λ b v cur. (own_counts b v cur).charges) k (state_of s));
        invoices = omega (arith, p.invoices, ap (λ (v : State Place). v preceding_invoice) e, lane_count preceding_invoice (λ (v : ℕ). v) (λ b v cur. omega arith) k (state_of s));
      }

-- at most so many are at most more
pub counted_within : {t : Tally} {m n : ℕ} → Counted t m → m ≤ n → Counted t n
counted_within p h = record { breakdowns = omega (arith, p.breakdowns); allowances = omega (arith, p.allowances); charges = omega (arith, p.charges); invoices = omega (arith, p.invoices) }
