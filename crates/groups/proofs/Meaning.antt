-- What the code's groups are, against the definitions of the reading.
use mathlib.Core.Path.{◌≡◌, refl}
use mathlib.Core.List.{[], ◌∷◌, append_assoc}
use Prim.Native.Nat.{ℕ, suc}
use Rattle.report.specs.Rows.{Place, vat, preceding}
use Rattle.settlement.specs.Document.{Doc}
use Rattle.settlement.specs.Shapes.{VatState}
use Rattle.settlement.specs.Values.{Lent}
use Rattle.settlement.specs.Tax.{trade_tax_of, point_date, point_code}
use Rattle.settlement.specs.Settlement as reading
use Rattle.groups.specs.Groups.{preceding_says}
use Rattle.groups.specs.Categories.{category_says}
use Rattle.groups.specs.Taxes.{point_says, trade_tax_says}

module _ (L : Lent) (D : Doc ℕ Place) (s : VatState Place) (n : ℕ) where
  -- a VAT breakdown says what the definition says
  pub vat_breakdown_says : (trade_tax_says L D s n).1 ≡ (trade_tax_of L D s n).says
  unfolding trade_tax_says point_says category_says trade_tax_of
  vat_breakdown_says = append_assoc (point_date L.mode D s n).1 (point_code D s n).1 _

  -- its row is the one that is held
  pub vat_breakdown_holds : vat (trade_tax_says L D s n).0.1 ∷ [] ≡ (trade_tax_of L D s n).holds
  unfolding trade_tax_says category_says trade_tax_of
  vat_breakdown_holds = refl

  -- point date and code are those after it; one breakdown more is counted
  pub vat_breakdown_next : record { count = suc s.count; point = (trade_tax_says L D s n).0.0.point; code = (trade_tax_says L D s n).0.0.code; first = (trade_tax_says L D s n).0.0.first } ≡ (trade_tax_of L D s n).next
  unfolding trade_tax_says point_says trade_tax_of
  vat_breakdown_next = refl

  -- nothing is unmapped
  pub vat_breakdown_strays : [] ≡ (trade_tax_of L D s n).strays
  unfolding trade_tax_of
  vat_breakdown_strays = refl

-- a preceding invoice: what it says, its row, and one more is counted
module _ (L : Lent) (D : Doc ℕ Place) (g n : ℕ) where
  pub preceding_is : record { next = suc g; says = (preceding_says L.mode L.rules D g n).1; holds = preceding (preceding_says L.mode L.rules D g n).0 ∷ []; strays = [] } ≡ reading.preceding_of L D g n
  unfolding preceding_says reading.preceding_of
  preceding_is = refl
