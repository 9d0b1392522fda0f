-- What was told of the parts of an allowance or a charge, put together.
use mathlib.Core.Path.{◌≡◌, refl, ap}
use mathlib.Core.Bool.{Bool, true, cond}
use mathlib.Core.List.{List}
use mathlib.Core.Option.{Option, none}
use Prim.Native.Nat.{ℕ}
use lib.IntN.{ℤ}
use Rattle.text.specs.Utf8.{bytes}
use Rattle.report.specs.Rows.{Place, AllowanceCharge}
use Rattle.settlement.specs.Document.{Doc}
use Rattle.settlement.specs.Shapes.{Counts}
use Rattle.settlement.specs.Tax.{TaxPaths, GroupTerms, group_terms, is_charge, category_of}
use Rattle.settlement.specs.Values.{Lent, kid, kid_text}
use Rattle.element.specs.LinkDoc.{link_doc}
use Rattle.values.specs.Told.{Told}
use Rattle.values.specs.declared.saying.Entries.{Entries}
use Rattle.values.proofs.Telling.{said_then}
use Rattle.groups.proofs.Made.{pair_made}
use Rattle.charges.specs.Charges.{no_category, category_found, category_trade_tax, actual_amount, basis_amount, calculation_percent, row_says, allowance_charge_says, applied_trade_tax, applied_amount, logistics_row}

-- a row that was made of values that are the same
pub row_made :
    {a a' : ℤ} {b b' : Option ℤ} {p p' q q' : Option (ℤ × ℕ)} {k k' : Place} {x x' y y' : Option Place} → a ≡ a' → b ≡ b' → p ≡ p' → k ≡ k' → q ≡ q' → x ≡ x' → y ≡ y' →
    ◌≡◌ {A = AllowanceCharge Place}
    (record { amount = a; base = b; percentage = p; category = k; rate = q; reason = x; code = y })
    (record { amount = a'; base = b'; percentage = p'; category = k'; rate = q'; reason = x'; code = y' })
row_made e f g h i j k = rw (e, f, g, h, i, j, k)

-- the category in a child that was looked for by a name
pub category_kid : (t x l : List ℕ) (n : ℕ) (w : List ℕ) {o : Option ℕ} (L : Lent) (p : TaxPaths) (q : GroupTerms) (g : ℕ) → o ≡ kid (link_doc t x l) n w → category_found L (link_doc t x l) p q g o ≡ category_of L (link_doc t x l) p q g n w
unfolding category_found no_category category_of
category_kid t x l n w L p q g e = rw e

module _ (L : Lent) (D : Doc ℕ Place) {e₀ e₁ e₂ : Entries} {k : Place} {q : Option (ℤ × ℕ)} {z : ℤ} {x : Option Place} where
  -- the row of an allowance or a charge: category and rate, amount, base, percentage, reason and its code
  pub row_told :
      {e₃ e₄ : Entries} {m : Option ℤ} {p : Option (ℤ × ℕ)} {y : Option Place} (t : GroupTerms) (g n : ℕ) → Told (category_trade_tax L D t g n) e₀ (k, q) e₁ →
      Told (actual_amount L D t g n) e₁ z e₂ → Told (basis_amount L.mode L.currency D t g n) e₂ m e₃ → Told (calculation_percent L.mode D t g n) e₃ p e₄ → x ≡ kid_text D 0 n (bytes "Reason") → y ≡ kid_text D 0 n (bytes "ReasonCode") →
      Told (row_says L D t g n) e₀ (record { amount = z; base = m; percentage = p; category = k; rate = q; reason = x; code = y }) e₄
  unfolding row_says
  row_told t g n v s m p e f =
      record {
        same = row_made s.same m.same p.same (ap (λ (w : Place × Option (ℤ × ℕ)). w.0) v.same) (ap (λ (w : Place × Option (ℤ × ℕ)). w.1) v.same) e f;
        said = said_then v.said (said_then s.said (said_then m.said p.said));
      }

  -- the row of a logistics charge: category and rate, amount, reason
  pub logistics_told :
      {t : GroupTerms} {g : ℕ} (i n : ℕ) → (t ≡ group_terms true) × (g ≡ i) → Told (applied_trade_tax L D t g n) e₀ (k, q) e₁ → Told (applied_amount L D t g n) e₁ z e₂ → x ≡ kid_text D 0 n (bytes "Description") →
      Told (logistics_row L D i n) e₀ (record { amount = z; base = none; percentage = none; category = k; rate = q; reason = x; code = none }) e₂
  unfolding logistics_row
  logistics_told {t} {g} i n o v s e = go (rw (o.0, o.1) at v) (rw (o.0, o.1) at s)
    where
      go : Told (applied_trade_tax L D (group_terms true) i n) e₀ (k, q) e₁ → Told (applied_amount L D (group_terms true) i n) e₁ z e₂ → Told (logistics_row L D i n) e₀ (record { amount = z; base = none; percentage = none; category = k; rate = q; reason = x; code = none }) e₂
      go v s =
          record {
            same = row_made s.same refl refl (ap (λ (w : Place × Option (ℤ × ℕ)). w.0) v.same) (ap (λ (w : Place × Option (ℤ × ℕ)). w.1) v.same) e refl;
            said = said_then v.said s.said;
          }

-- an allowance or a charge: its indicator, then its row
pub allowance_charge_told :
    (L : Lent) (D : Doc ℕ Place) (s : Counts) (n : ℕ) {e₀ e₁ e₂ : Entries} {b : Bool} {t : GroupTerms} {g : ℕ} {v : AllowanceCharge Place} → Told (is_charge D n) e₀ b e₁ → (t ≡ group_terms b) × (g ≡ cond b s.charges s.allowances) →
    Told (row_says L D t g n) e₁ v e₂ → Told (allowance_charge_says L D s n) e₀ (b, v) e₂
unfolding allowance_charge_says
allowance_charge_told L D s n {e₀} {e₁} {e₂} {b} {t} {g} {v} i o q = go (rw i.same at (rw (o.0, o.1) at q))
  where
    go : Told (row_says L D (group_terms (is_charge D n).0) (cond (is_charge D n).0 s.charges s.allowances) n) e₁ v e₂ → Told (allowance_charge_says L D s n) e₀ (b, v) e₂
    go q = record { same = pair_made i.same q.same; said = said_then i.said q.said }
