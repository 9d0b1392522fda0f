-- What a child did, by what the function that reads its element did.
use mathlib.Core.Path.{◌≡◌, refl, sym, ap, ◌∙◌}
use mathlib.Core.Bool.{Bool, true, false}
use mathlib.Core.List.{List, [], ◌∷◌}
use mathlib.Core.Option.{none, some}
use Prim.Native.Nat.{ℕ, suc, ◌+◌}
use native.Mathlib.Omega.{arith}
use Rattle.report.specs.Rows.{Place, Held, Vat, vat, AllowanceCharge, charge, Preceding, preceding, held_as}
use Rattle.report.specs.HeldRows.{Holds}
use Rattle.report.specs.declared.held.HeldRows.{HeldRows}
use Rattle.settlement.specs.Document.{Doc, maybe}
use Rattle.settlement.specs.Shapes.{Act, VatState, Counts}
use Rattle.settlement.specs.Tax.{trade_tax_of, counted, allowance_or_charge, logistics}
use Rattle.settlement.specs.Settlement as reading
use Rattle.settlement.specs.Values.{Lent, Says}
use Rattle.values.specs.Told.{Told}
use Rattle.values.specs.declared.saying.Entries.{Entries}
use Rattle.unmapped.proofs.Notings.{notes_none}
use Rattle.unmapped.specs.declared.note.UnmappedRows.{UnmappedRows}
use Rattle.unmapped.specs.Acted.{Acted}
use Rattle.groups.specs.Taxes.{trade_tax_says}
use Rattle.groups.specs.Groups.{preceding_says}
use Rattle.groups.proofs.Meaning.{vat_breakdown_says, vat_breakdown_holds, vat_breakdown_next, vat_breakdown_strays, preceding_is}
use Rattle.charges.specs.Charges.{allowance_charge_says, logistics_says}
use Rattle.charges.proofs.Meaning.{allowance-charge-says, allowance_charge_holds, allowance_charge_next, allowance_charge_strays, logistics-says, logistics_holds, logistics_next, logistics_strays}
use Rattle.steps.proofs.Stepping.{none_held}

-- a child that says something and holds one row
pub row_acted :
    {S A : Type 0} {a : Act Place S} {t : Says Place A} (row : A → Held Place) {v : A} {next : S} {h h' : HeldRows} {e e' : Entries} →
    next ≡ a.next →
    t.1 ≡ a.says →
    row t.0 ∷ [] ≡ a.holds →
    [] ≡ a.strays →
    Told t e v e' →
    Holds (row v ∷ []) h h' →
    (x : List ℕ) (u : UnmappedRows) →
    Acted a x next h h' e e' u u
row_acted {S} {A} {a} {t} row {v} p q w z told put x u =
    record {
      same = p;
      held = rw (ap (λ (i : A). row i ∷ []) told.same ∙ w) at put;
      said = rw q at told.said;
      noted = rw (← z) (notes_none x u);
    }

module _ (L : Lent) (D : Doc ℕ Place) (n : ℕ) {h h' : HeldRows} {e e' : Entries} (x : List ℕ) (u : UnmappedRows) where
  -- a VAT breakdown
  pub vat_acted : (s : VatState Place) {q : VatState Place} {v : Vat Place} → Told (trade_tax_says L D s n) e ((q, v)) e' → Holds (vat v ∷ []) h h' → Acted (trade_tax_of L D s n) x (record { count = s.count + 1; point = q.point; code = q.code; first = q.first }) h h' e e' u u
  vat_acted s told put =
      let one : s.count + 1 ≡ suc s.count = omega arith in
      rw one
      (row_acted (λ (w : VatState Place × Vat Place). vat w.1) (ap more told.same ∙ vat_breakdown_next L D s n) (vat_breakdown_says L D s n) (vat_breakdown_holds L D s n) (vat_breakdown_strays L D s n) told put x u)
    where
      more : VatState Place × Vat Place → VatState Place
      more w = record { count = suc s.count; point = w.0.point; code = w.0.code; first = w.0.first }

  -- a preceding invoice
  pub preceding_acted : (g : ℕ) {v : Preceding Place} → Told (preceding_says L.mode L.rules D g n) e v e' → Holds (preceding v ∷ []) h h' → Acted (reading.preceding_of L D g n) x (g + 1) h h' e e' u u
  preceding_acted g told put = rw (← preceding_is L D g n) (row_acted preceding (omega arith) refl refl refl told put x u)

  -- an allowance or a charge
  pub allowance_acted : (s : Counts) {i : Bool} {v : AllowanceCharge Place} → Told (allowance_charge_says L D s n) e ((i, v)) e' → Holds (held_as i v ∷ []) h h' → Acted (allowance_or_charge L D s n) x (counted i s) h h' e e' u u
  allowance_acted s told put =
      row_acted (λ (w : Bool × AllowanceCharge Place). held_as w.0 w.1) (ap (λ (w : Bool × AllowanceCharge Place). counted w.0 s) told.same ∙ allowance_charge_next L D s n) (allowance-charge-says L D s n) (allowance_charge_holds L D s n)
      (sym (allowance_charge_strays L D s n)) told put x u

  -- a logistics charge that is a charge
  pub logistics_held : (s : Counts) {v : AllowanceCharge Place} → Told (logistics_says L D s.charges n) e (some v) e' → Holds (charge v ∷ []) h h' → Acted (logistics L D s n) x (counted true s) h h' e e' u u
  logistics_held s {v} told put =
      record {
        same = ap (maybe s (λ i. counted true s)) told.same ∙ logistics_next L D s n;
        held = rw (ap (maybe [] (λ i. charge i ∷ [])) told.same ∙ logistics_holds L D s n) at put;
        said = rw (logistics-says L D s n) at told.said;
        noted = rw (logistics_strays L D s n) (notes_none x u);
      }

-- one that is not
pub logistics-left :
    (L : Lent) (D : Doc ℕ Place) (n : ℕ) {e e' : Entries} (x : List ℕ) (u : UnmappedRows) (s : Counts) → Told (logistics_says L D s.charges n) e none e' → (h : HeldRows) → Acted (logistics L D s n) x s h h e e' u u
logistics-left L D n x u s told h =
    record {
      same = ap (maybe s (λ i. counted true s)) told.same ∙ logistics_next L D s n;
      held = none_held (sym (ap (maybe [] (λ i. charge i ∷ [])) told.same ∙ logistics_holds L D s n)) h;
      said = rw (logistics-says L D s n) at told.said;
      noted = rw (logistics_strays L D s n) (notes_none x u);
    }

-- one charge more
pub charge_more : {b : Bool} → b ≡ true → (s : Counts) → ◌≡◌ {A = Counts} (record { allowances = s.allowances; charges = s.charges + 1 }) (counted b s)
unfolding counted
charge_more e s = let one : s.charges + 1 ≡ suc s.charges = omega arith in rw (e, one)

-- one allowance more
pub allowance_more : {b : Bool} → b ≡ false → (s : Counts) → ◌≡◌ {A = Counts} (record { allowances = s.allowances + 1; charges = s.charges }) (counted b s)
unfolding counted
allowance_more e s = let one : s.allowances + 1 ≡ suc s.allowances = omega arith in rw (e, one)
