-- What the code's allowances and charges are, against the definitions of the reading.
use mathlib.Core.Path.{◌≡◌, refl, sym, ap}
use mathlib.Core.Bool.{Bool, true, false, cond}
use mathlib.Core.List.{[], ◌∷◌}
use mathlib.Core.Option.{Option, none, some}
use Prim.Native.Nat.{ℕ}
use Rattle.report.specs.Rows.{Place, AllowanceCharge, charge, held_as}
use Rattle.settlement.specs.Document.{Doc, maybe}
use Rattle.settlement.specs.Shapes.{Counts, Act}
use Rattle.settlement.specs.Tax.{counted, allowance_charge_of, allowance_or_charge, logistics, logistics_read, logistics_left}
use Rattle.settlement.specs.Values.{Lent, Says}
use Rattle.charges.specs.Charges.{row_says, allowance_charge_says, logistics_row, logistics_says}

module _ (L : Lent) (D : Doc ℕ Place) (s : Counts) (n : ℕ) where
  -- it says what the definition says
  pub allowance-charge-says : (allowance_charge_says L D s n).1 ≡ (allowance_or_charge L D s n).says
  unfolding allowance_charge_says row_says allowance_or_charge allowance_charge_of
  allowance-charge-says = refl

  -- its row is the one that is held
  pub allowance_charge_holds : held_as (allowance_charge_says L D s n).0.0 (allowance_charge_says L D s n).0.1 ∷ [] ≡ (allowance_or_charge L D s n).holds
  unfolding allowance_charge_says row_says allowance_or_charge allowance_charge_of
  allowance_charge_holds = refl

  -- one allowance or charge more is counted
  pub allowance_charge_next : counted (allowance_charge_says L D s n).0.0 s ≡ (allowance_or_charge L D s n).next
  unfolding allowance_charge_says allowance_or_charge
  allowance_charge_next = refl

  -- nothing is unmapped
  pub allowance_charge_strays : (allowance_or_charge L D s n).strays ≡ []
  unfolding allowance_or_charge
  allowance_charge_strays = refl

  -- what a logistics charge makes: its row and one charge more, if it is a charge
  abbrev made : Says Place (Option (AllowanceCharge Place)) → Act Place Counts
  made x = record { next = maybe s (λ a. counted true s) x.0; says = x.1; holds = maybe [] (λ a. charge a ∷ []) x.0; strays = [] }

  logistics_is : made (logistics_says L D s.charges n) ≡ logistics L D s n
  unfolding logistics_says logistics_row logistics logistics_read logistics_left
  logistics_is = go L.extension
    where
      go : (b : Bool) → made (cond b (some (logistics_row L D s.charges n).0, (logistics_row L D s.charges n).1) (none, (logistics_left s).says)) ≡ cond b (logistics_read L D s n) (logistics_left s)
      go true = refl
      go false = refl

  -- it says what the definition says
  pub logistics-says : (logistics_says L D s.charges n).1 ≡ (logistics L D s n).says
  logistics-says = ap (λ (a : Act Place Counts). a.says) logistics_is

  -- its row is the one that is held
  pub logistics_holds : maybe [] (λ a. charge a ∷ []) (logistics_says L D s.charges n).0 ≡ (logistics L D s n).holds
  logistics_holds = ap (λ (a : Act Place Counts). a.holds) logistics_is

  -- the charges are counted
  pub logistics_next : maybe s (λ a. counted true s) (logistics_says L D s.charges n).0 ≡ (logistics L D s n).next
  logistics_next = ap (λ (a : Act Place Counts). a.next) logistics_is

  -- nothing is unmapped
  pub logistics_strays : (logistics L D s n).strays ≡ []
  logistics_strays = sym (ap (λ (a : Act Place Counts). a.strays) logistics_is)
