-- VAT breakdowns in the code's terms.
use Rattle.text.specs.Options.{option_of}
use Rattle.std.specs.Prelude.{Some, true, cond, List, [], ◌∷◌, ◌++◌, ℕ, ℤ}
use Rattle.std.proofs.Math.Option.{Option, some}
use Rattle.text.specs.Order.{equal}
use Rattle.text.specs.Utf8.{bytes}
use Rattle.codes.specs.VatPoint.{vat_point_date_code_of}
use Rattle.codes.specs.declared.rules.Rule.TheVariants as Rule
use Rattle.names.specs.declared.message.Message.TheVariants as Message
use Rattle.names.specs.declared.path.Path.TheVariants as Path
use Rattle.names.specs.declared.term.Term.TheVariants as Term
use Rattle.report.specs.Rows.{Place, Vat}
use Rattle.report.specs.Values.{text_of}
use Rattle.settlement.specs.Document.{Doc, maybe}
use Rattle.settlement.specs.Shapes.{VatState}
use Rattle.settlement.specs.TableDoc.{shows}
use Rattle.settlement.specs.Tax.{point_date, point_code}
use Rattle.settlement.specs.Values.{Lent, Says, site, grouped, entry, kid_text, required_amount}
use Rattle.groups.specs.declared.shapes.Category.{Category}
use Rattle.groups.specs.declared.shapes.VatState as Code
use Rattle.values.specs.Sites.{date_of}
use Rattle.groups.specs.Categories.{text_found, category_says}

-- VAT so far
abbrev pub vat_state_of : Code.VatState → VatState Place
vat_state_of s = record { count = s.breakdowns; point = option_of s.point; code = option_of s.code; first = text_of s.first }

-- the date of a child, until one is read
unfoldable pub point_date_found : ℕ → Doc ℕ Place → VatState Place → Option ℕ → Says Place (Option ℕ)
point_date_found mode D s o = maybe (date_of mode D (record { point = true; time = Path.TaxPointDateTimeString; day = Path.TaxPointDateString }) o) (λ d. (some d, [])) s.point

-- the first code: readable, else said
unfoldable pub fresh_code_of : List ℕ → VatState Place → Place → Says Place (VatState Place)
fresh_code_of x s p =
    let a = vat_point_date_code_of (shows x p) in (
      record { count = s.count; point = s.point; code = a.value; first = some p },
      maybe (entry Message.UnknownVatPointCode (site Path.TradeTaxDueDateTypeCode (some Term.Bt8)) (some p) ∷ []) (λ c. []) a.value,
    )

-- a further code, said where it is not written as the first
unfoldable pub again_code_of : List ℕ → VatState Place → Place → Place → Says Place (VatState Place)
again_code_of x s p f = (s, cond (equal (shows x f) (shows x p)) [] (entry Message.SecondVatPointCode (site Path.SettlementTradeTaxDueDateTypeCode (some Term.Bt8)) (some p) ∷ []))

-- no code, the first, or a further one
unfoldable pub point_code_in : List ℕ → VatState Place → Option Place → Says Place (VatState Place)
point_code_in x s o = maybe (s, []) (λ p. maybe (fresh_code_of x s p) (again_code_of x s p) s.first) o

-- point date and code after a breakdown with these children, with what they say; `point_kids` joins it to the next
unfoldable pub point_found : ℕ → Doc ℕ Place → List ℕ → VatState Place → Option ℕ → Option ℕ → Says Place (VatState Place)
point_found mode D x s date code =
    let d = point_date_found mode D s date in
    let c = point_code_in x s (text_found D 0 code) in
    (record { count = s.count; point = d.0; code = c.0.code; first = c.0.first }, d.1 ++ c.1)

-- point date and code after a breakdown, with what they say
unfoldable pub point_says : ℕ → Doc ℕ Place → VatState Place → ℕ → Says Place (VatState Place)
point_says mode D s n =
    let d = point_date mode D s n in
    let c = point_code D s n in
    (record { count = s.count; point = d.0; code = c.0.code; first = c.0.first }, d.1 ++ c.1)

-- the category of a breakdown
abbrev pub vat_category : Category
vat_category = record { code = Path.TradeTaxTypeCode; whole = Path.SettlementTradeTax; share = Path.TradeTaxRateApplicablePercent; category = Some Term.Bt118; rate = Some Term.Bt119; rule = Rule.Br47 }

module _ (L : Lent) (D : Doc ℕ Place) (g n : ℕ) where
  -- the taxable amount of a breakdown
  abbrev pub basis_amount : Says Place ℤ
  basis_amount = required_amount L D Rule.Br45 Path.SettlementTradeTax (grouped Path.TradeTaxBasisAmount (some Term.Bt116) g) n (bytes "BasisAmount")

  -- its tax amount
  abbrev pub calculated_amount : Says Place ℤ
  calculated_amount = required_amount L D Rule.Br46 Path.SettlementTradeTax (grouped Path.TradeTaxCalculatedAmount (some Term.Bt117) g) n (bytes "CalculatedAmount")

-- point date and code after a breakdown, and the breakdown, with what it says
unfoldable pub trade_tax_says : Lent → Doc ℕ Place → VatState Place → ℕ → Says Place (VatState Place × Vat Place)
trade_tax_says L D s n =
    let g = s.count in
    let p = point_says L.mode D s n in
    let a = basis_amount L D g n in
    let b = calculated_amount L D g n in
    let k = category_says L.mode L.rules D vat_category g n in (
      (
        p.0,
        record { taxable = a.0; tax = b.0; category = k.0.0; rate = k.0.1; reason = kid_text D 0 n (bytes "ExemptionReason"); code = kid_text D 0 n (bytes "ExemptionReasonCode") },
      ),
      p.1 ++ (a.1 ++ (b.1 ++ k.1)),
    )
