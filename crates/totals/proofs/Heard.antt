-- The optional amounts of a summation are what the first child of each name says.
use mathlib.Core.Path.{◌≡◌, refl, ◌∙◌}
use mathlib.Core.Bool.{Bool, true, false}
use mathlib.Core.List.{List, [], ◌∷◌, foldl}
use mathlib.Core.Option.{Option, none, some}
use Prim.Native.Nat.{ℕ}
use Prim.Native.String.{String}
use lib.IntN.{ℤ}
use Rattle.text.specs.Order.{equal}
use Rattle.text.specs.Utf8.{bytes, encode}
use Rattle.text.proofs.Orders.{equal_is}
use Rattle.names.specs.declared.path.Path.{Path}
use Rattle.names.specs.declared.term.Term.{Term}
use Rattle.report.specs.Rows.{Place}
use Rattle.settlement.specs.Document.{Doc}
use Rattle.settlement.specs.Kinds.{meant}
use Rattle.settlement.specs.Shapes.{Currencies}
use Rattle.settlement.specs.Summation.{Sum, required, allowance_total, charge_total, tax_total, rounding, prepaid, Summing, with_vat, sums, sum_of, summand, summing, summed}
use Rattle.settlement.specs.Summation as Def
use Rattle.settlement.specs.Values.{Lent, Site, Says, site, first, kid, amount}
use Rattle.amounts.specs.Amounts.{amount_found}
use Rattle.totals.specs.Reading.{taxing}
use Rattle.totals.proofs.Steps.{tax_beside}

module _ (L : Lent) (D : Doc ℕ Place) (n : ℕ) where
  -- what the first child of a name says is an amount, unless a child of the name is still to come
  abbrev Due : Path → Term → String → List ℕ → Option ℤ → Type 0
  Due p t w cs v = first D (bytes w) cs ≡ none → v ≡ (amount L.mode L.currency D (site p (some t)) n (bytes w)).0

  -- so of each optional amount
  pub record Dues (cs : List ℕ) (m : Summing Place) : Type 0 where
    pub allowance : Due Path.SummationAllowanceTotalAmount Term.Bt107 "AllowanceTotalAmount" cs m.allowance
    pub charge : Due Path.SummationChargeTotalAmount Term.Bt108 "ChargeTotalAmount" cs m.charge
    pub rounded : Due Path.SummationRoundingAmount Term.Bt114 "RoundingAmount" cs m.rounded
    pub paid : Due Path.SummationTotalPrepaidAmount Term.Bt113 "TotalPrepaidAmount" cs m.paid

module _ (L : Lent) (D : Doc ℕ Place) (cur : Currencies Place) (n : ℕ) where
  -- a child sets one of them to what the first child of its name says, or none
  dues_step : {cs : List ℕ} {m : Summing Place} (j : Sum) (c : ℕ) → Dues L D n cs m → Dues L D n cs (summand L D j cur n m c)
  unfolding summand with_vat
  dues_step required c h = h
  dues_step allowance_total c h = record { allowance = λ e. refl; charge = h.charge; rounded = h.rounded; paid = h.paid }
  dues_step charge_total c h = record { allowance = h.allowance; charge = λ e. refl; rounded = h.rounded; paid = h.paid }
  dues_step {m = m} tax_total c h = rw (tax_beside L D cur m c) (record { allowance = h.allowance; charge = h.charge; rounded = h.rounded; paid = h.paid })
  dues_step rounding c h = record { allowance = h.allowance; charge = h.charge; rounded = λ e. refl; paid = h.paid }
  dues_step prepaid c h = record { allowance = h.allowance; charge = h.charge; rounded = h.rounded; paid = λ e. refl }
  dues_step Def.unread c h = record { allowance = h.allowance; charge = h.charge; rounded = h.rounded; paid = h.paid }

  -- a child of a name sets its amount, whatever is still to come
  module _ (get : Summing Place → Option ℤ) (w : String) (c : ℕ) (cs : List ℕ) (m : Summing Place) (v : Option ℤ) where
    past : (b : Bool) → equal (D.bytes (D.name c)) (bytes w) ≡ b → get (summand L D (meant Def.unread sums (bytes w)) cur n m c) ≡ v → (first D (bytes w) (c ∷ cs) ≡ none → get (summing L D cur n m c) ≡ v) → first D (bytes w) cs ≡ none → get (summing L D cur n m c) ≡ v
    unfolding first summing sum_of
    past true q own h e = rw (equal_is _ _ q) own
    past false q own h e = h (rw q e)

  dues_past : (c : ℕ) (cs : List ℕ) (m : Summing Place) → Dues L D n (c ∷ cs) (summing L D cur n m c) → Dues L D n cs (summing L D cur n m c)
  unfolding meant sums bytes encode equal summand
  dues_past c cs m h =
      record {
        allowance = past (λ m. m.allowance) "AllowanceTotalAmount" c cs m _ _ refl refl h.allowance;
        charge = past (λ m. m.charge) "ChargeTotalAmount" c cs m _ _ refl refl h.charge;
        rounded = past (λ m. m.rounded) "RoundingAmount" c cs m _ _ refl refl h.rounded;
        paid = past (λ m. m.paid) "TotalPrepaidAmount" c cs m _ _ refl refl h.paid;
      }

  dues_all : (cs : List ℕ) (m : Summing Place) → Dues L D n cs m → Dues L D n [] (foldl (summing L D cur n) m cs)
  unfolding summing
  dues_all [] m h = h
  dues_all (c ∷ cs) m h = dues_all cs (summing L D cur n m c) (dues_past c cs m (dues_step (sum_of D c) c h))

  dues_start : Dues L D n (D.kids n) (taxing (none, none))
  unfolding amount kid
  dues_start = record { allowance = λ e. rw e; charge = λ e. rw e; rounded = λ e. rw e; paid = λ e. rw e }

  pub dues_summed : Dues L D n [] (summed L D cur n)
  unfolding summed
  dues_summed = dues_all (D.kids n) (taxing (none, none)) dues_start

-- what was heard of a child that was looked for by a name
pub kid_heard : (L : Lent) (D : Doc ℕ Place) (n : ℕ) (w : List ℕ) {o : Option ℕ} {v : Says Place (Option ℤ)} {y s : Site} → y ≡ s → o ≡ kid D n w → v ≡ amount_found L D y o → v ≡ amount L.mode L.currency D s n w
unfolding amount_found amount
kid_heard L D n w p q h = h ∙ rw (p, q)
