-- Laws of the walk over a summation's children, and of the totals after it.
use mathlib.Core.Path.{◌≡◌, refl, ap}
use mathlib.Core.List.{List, [], ◌∷◌, foldl}
use mathlib.Core.Option.{Option, none, some}
use Prim.Native.Nat.{ℕ}
use lib.IntN.{ℤ}
use Rattle.text.specs.Utf8.{bytes}
use Rattle.codes.specs.declared.rules.Rule.TheVariants as Rule
use Rattle.names.specs.declared.path.Path.TheVariants as Path
use Rattle.names.specs.declared.term.Term.TheVariants as Term
use Rattle.report.specs.Rows.{Place}
use Rattle.report.specs.declared.held.HeldRows.{HeldRows}
use Rattle.settlement.specs.Document.{Doc}
use Rattle.settlement.specs.Shapes.{Totals, Currencies}
use Rattle.settlement.specs.Summation.{Summing, summing, summed, totals}
use Rattle.settlement.specs.Values.{Lent, site, first, required_amount}
use Rattle.values.specs.Told.{Told}
use Rattle.values.specs.declared.saying.Entries.{Entries}
use Rattle.values.proofs.Telling.{said_then}
use Rattle.unmapped.specs.Acted.{Acted}
use Rattle.unmapped.specs.declared.note.UnmappedRows.{UnmappedRows}
use Rattle.totals.specs.Reading.{taxes, amounts, taxing, made, said_by, Hears}
use Rattle.totals.specs.declared.firsts.Firsts.{Firsts}
use Rattle.totals.proofs.Heard.{dues_summed}
use Rattle.totals.proofs.Steps.{acted_start}

-- with the children cs to go: those so far made a state, and the rest make of it what all children make
pub record Walked (L : Lent) (D : Doc ℕ Place) (x : List ℕ) (cur : Currencies Place) (n : ℕ) (h : HeldRows) (e₀ : Entries) (u₀ : UnmappedRows) (cs : List ℕ) (p : Option ℤ × Option ℤ) (e : Entries) (u : UnmappedRows) : Type 0 where
  pub state : Summing Place
  pub rest : summed L D cur n ≡ foldl (summing L D cur n) state cs
  pub acted : Acted (made taxes state) x p h h e₀ e u₀ u

module _ {L : Lent} {D : Doc ℕ Place} {x : List ℕ} {cur : Currencies Place} {n : ℕ} {h : HeldRows} {e₀ : Entries} {u₀ : UnmappedRows} where
  pub walk_start : {cs : List ℕ} → cs ≡ D.kids n → Walked L D x cur n h e₀ u₀ cs (none, none) e₀ u₀
  unfolding summed
  walk_start q = record { state = taxing (none, none); rest = rw q; acted = acted_start _ x h e₀ u₀ }

  module _ {cs : List ℕ} {p : Option ℤ × Option ℤ} {e : Entries} {u : UnmappedRows} (k : Walked L D x cur n h e₀ u₀ cs p e u) where
    -- one child more, however its reading is told
    pub walk_turn :
        {c : ℕ} {ds : List ℕ} {p' : Option ℤ × Option ℤ} {e' : Entries} {u' : UnmappedRows} →
        cs ≡ c ∷ ds →
        ((m : Summing Place) → Acted (made taxes m) x p h h e₀ e u₀ u → Acted (made taxes (summing L D cur n m c)) x p' h h e₀ e' u₀ u') →
        Walked L D x cur n h e₀ u₀ ds p' e' u'
    walk_turn {c} q step = record { state = summing L D cur n k.state c; rest = rw q at k.rest; acted = step k.state k.acted }

    pub walk_out : cs ≡ [] → Acted (made taxes (summed L D cur n)) x p h h e₀ e u₀ u
    walk_out q = rw (k.rest, q) k.acted

-- the amounts of the firsts, beside BT-110 and BT-111 after the walk
pub sums_acted :
    (L : Lent) (D : Doc ℕ Place) (cur : Currencies Place) (n : ℕ) {x : List ℕ} {f : Firsts} {a c v w p r : Option ℤ} {h : HeldRows} {e e' : Entries} {u u' : UnmappedRows} → Hears L D n f → Acted (made taxes (summed L D cur n)) x (v, w) h h e e' u u' → a ≡ (said_by f.allowance).0 → c ≡ (said_by f.charge).0 → p ≡ (said_by f.paid).0 → r ≡ (said_by f.rounding).0 →
    Acted (made amounts (summed L D cur n)) x (a, c, v, w, p, r) h h e e' u u'
unfolding first
sums_acted L D cur n s k i j o q =
    let d = dues_summed L D cur n in
    record {
      same = rw (i, j, o, q, s.allowance, s.charge, s.paid, s.rounding, d.allowance refl, d.charge refl, d.paid refl, d.rounded refl, ap (λ (t : Option ℤ × Option ℤ). t.0) k.same, ap (λ (t : Option ℤ × Option ℤ). t.1) k.same);
      held = k.held;
      said = k.said;
      noted = k.noted;
    }

-- the amounts that a summation must have, after all children
abbrev as_totals : ℤ → ℤ → ℤ → ℤ → Option ℤ × Option ℤ × Option ℤ × Option ℤ × Option ℤ × Option ℤ → Totals
as_totals i j k o s = record { line = i; allowance = s.0; charge = s.1; taxable = j; vat = s.2; vat_accounting = s.3; gross = k; paid = s.4; rounding = s.5; due = o }

pub totals_acted :
    (L : Lent) (D : Doc ℕ Place) (cur : Currencies Place) (n : ℕ) {x : List ℕ} {a c v w p r : Option ℤ} {i j k o : ℤ} {h : HeldRows} {e e₀ e₁ e₂ e₃ e₄ : Entries} {u u' : UnmappedRows} → Acted (made amounts (summed L D cur n)) x (a, c, v, w, p, r) h h e e₀ u u' →
    Told (required_amount L D Rule.Br12 Path.SettlementSummation (site Path.SummationLineTotalAmount (some Term.Bt106)) n (bytes "LineTotalAmount")) e₀ i e₁ →
    Told (required_amount L D Rule.Br13 Path.SettlementSummation (site Path.SummationTaxBasisTotalAmount (some Term.Bt109)) n (bytes "TaxBasisTotalAmount")) e₁ j e₂ →
    Told (required_amount L D Rule.Br14 Path.SettlementSummation (site Path.SummationGrandTotalAmount (some Term.Bt112)) n (bytes "GrandTotalAmount")) e₂ k e₃ →
    Told (required_amount L D Rule.Br15 Path.SettlementSummation (site Path.SummationDuePayableAmount (some Term.Bt115)) n (bytes "DuePayableAmount")) e₃ o e₄ →
    Acted (totals L D cur n) x (some (record { line = i; allowance = a; charge = c; taxable = j; vat = v; vat_accounting = w; gross = k; paid = p; rounding = r; due = o })) h h e e₄ u u'
unfolding totals
totals_acted L D cur n s i j k o = record { same = ap some (rw (i.same, j.same, k.same, o.same) (ap (as_totals _ _ _ _) s.same)); held = s.held; said = said_then s.said (said_then i.said (said_then j.said (said_then k.said o.said))); noted = s.noted }
