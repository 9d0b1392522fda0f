-- VAT breakdowns, allowances and charges (document 01, `read.rs`; EN 16931-1, BG-20, BG-21, BG-23).
use Rattle.std.specs.Prelude.{Bool, true, false, cond, List, [], ◌∷◌, ◌++◌, ℕ, suc, ℤ}
use Rattle.std.proofs.Math.Option.{Option, none, some}
use Rattle.text.specs.Answer.{Answer}
use Rattle.text.specs.Order.{equal}
use Rattle.text.specs.Utf8.{bytes}
use Rattle.codes.specs.Boolean.{boolean_of}
use Rattle.codes.specs.VatPoint.{vat_point_date_code_of}
use Rattle.codes.specs.declared.rules.Rule.{Rule}
use Rattle.names.specs.declared.message.Message.TheVariants as Message
use Rattle.names.specs.declared.path.Path.{Path}
use Rattle.names.specs.declared.term.Term.{Term}
use Rattle.report.specs.Rows.{Held, vat, allowance, charge}
use Rattle.settlement.specs.Document.{Doc, maybe}
use Rattle.settlement.specs.Shapes.{VatState, Counts, Act}
use Rattle.settlement.specs.Values.{Lent, site, grouped, Says, entry, own_text, kid, kid_text, missing, amount, required_amount, required_code, percent, not_vat, date}

-- the paths of a VAT category's element: its type code, itself, its rate, and its parent
pub record TaxPaths : Type 0 where
  pub type_code : Path
  pub whole : Path
  pub rate : Path
  pub parent : Path

-- CategoryTradeTax of an allowance or a charge
abbrev pub category_paths : TaxPaths
category_paths =
    record { type_code = Path.CategoryTradeTaxTypeCode; whole = Path.SettlementAllowanceChargeCategoryTradeTax; rate = Path.CategoryTradeTaxRateApplicablePercent; parent = Path.SettlementAllowanceCharge }

-- AppliedTradeTax of a logistics charge
abbrev pub applied_paths : TaxPaths
applied_paths =
    record { type_code = Path.AppliedTradeTaxTypeCode; whole = Path.SettlementLogisticsChargeAppliedTradeTax; rate = Path.AppliedTradeTaxRateApplicablePercent; parent = Path.SettlementLogisticsCharge }

-- the terms of an allowance (BG-20) or a charge (BG-21), and the rules that require two of them
pub record GroupTerms : Type 0 where
  pub amount : Option Term
  pub base : Option Term
  pub percentage : Option Term
  pub category : Option Term
  pub rate : Option Term
  pub amount_rule : Rule
  pub category_rule : Rule

-- a charge's, or an allowance's
abbrev pub group_terms : Bool → GroupTerms
group_terms false = record { amount = some Term.Bt92; base = some Term.Bt93; percentage = some Term.Bt94; category = some Term.Bt95; rate = some Term.Bt96; amount_rule = Rule.Br31; category_rule = Rule.Br32 }
group_terms true = record { amount = some Term.Bt99; base = some Term.Bt100; percentage = some Term.Bt101; category = some Term.Bt102; rate = some Term.Bt103; amount_rule = Rule.Br36; category_rule = Rule.Br37 }

-- BT-7: the point date, until one is read
unfoldable pub point_date : {N X : Type 0} → ℕ → Doc N X → VatState X → N → Says X (Option ℕ)
point_date mode D s n = maybe (date mode D true Path.TaxPointDateTimeString Path.TaxPointDateString n (bytes "TaxPointDate")) (λ d. (some d, [])) s.point

module _ {N X : Type 0} (D : Doc N X) where
  -- BT-8: the first code is kept as it is written, readable (else 15) or not; a different one is 14
  unfoldable pub fresh_code : VatState X → X → Answer ℕ → Says X (VatState X)
  fresh_code s x a = (
    record { count = s.count; point = s.point; code = a.value; first = some x },
    maybe (entry Message.UnknownVatPointCode (site Path.TradeTaxDueDateTypeCode (some Term.Bt8)) (some x) ∷ []) (λ c. []) a.value,
  )

  -- a further code
  unfoldable pub again_code : VatState X → X → X → Says X (VatState X)
  again_code s x f = (s, cond (equal (D.bytes f) (D.bytes x)) [] (entry Message.SecondVatPointCode (site Path.SettlementTradeTaxDueDateTypeCode (some Term.Bt8)) (some x) ∷ []))

  -- no code, the first, or a further one
  unfoldable pub point_code : VatState X → N → Says X (VatState X)
  point_code s n = maybe (s, []) (λ x. maybe (fresh_code s x (vat_point_date_code_of (D.bytes x))) (again_code s x) s.first) (kid_text D 0 n (bytes "DueDateTypeCode"))

  -- indicator: true, 1, false or 0; bad means allowance (18), as absent does (19)
  unfoldable pub indicated : N → Answer Bool → Says X Bool
  indicated i a = maybe (false, entry Message.IndicatorMalformed (site Path.AllowanceChargeIndicator none) (some (own_text D 0 i)) ∷ []) (λ b. (b, [])) a.value

  -- ChargeIndicator/Indicator
  unfoldable pub indicator : N → Option N
  indicator n = maybe none (λ c. kid D c (bytes "Indicator")) (kid D n (bytes "ChargeIndicator"))

  -- whether it is a charge
  unfoldable pub is_charge : N → Says X Bool
  is_charge n = maybe (false, entry Message.IndicatorAbsent (site Path.AllowanceChargeIndicator none) none ∷ []) (λ i. indicated i (boolean_of (D.bytes (own_text D 0 i)))) (indicator n)

-- one allowance or charge more
unfoldable pub counted : Bool → Counts → Counts
counted b s = record { allowances = cond b s.allowances (suc s.allowances); charges = cond b (suc s.charges) s.charges }

-- message 20 alone
unfoldable pub logistics_left : {X : Type 0} → Counts → Act X Counts
logistics_left s = record { next = s; says = entry Message.LogisticsCharge (site Path.SettlementLogisticsCharge none) none ∷ []; holds = []; strays = [] }

module _ {N X : Type 0} (L : Lent) (D : Doc N X) where
  -- VAT: point date, point code, taxable, tax, type code, category, rate
  unfoldable pub trade_tax_of : VatState X → N → Act X (VatState X)
  trade_tax_of s n =
      let g = s.count in
      let d = point_date L.mode D s n in
      let c = point_code D s n in
      let a = required_amount L D Rule.Br45 Path.SettlementTradeTax (grouped Path.TradeTaxBasisAmount (some Term.Bt116) g) n (bytes "BasisAmount") in
      let b = required_amount L D Rule.Br46 Path.SettlementTradeTax (grouped Path.TradeTaxCalculatedAmount (some Term.Bt117) g) n (bytes "CalculatedAmount") in
      let k = required_code L.rules D Rule.Br47 (grouped Path.SettlementTradeTax (some Term.Bt118) g) n (bytes "CategoryCode") in
      let r = percent L.mode D (grouped Path.TradeTaxRateApplicablePercent (some Term.Bt119) g) n (bytes "RateApplicablePercent") in
      record {
        next = record { count = suc g; point = d.0; code = c.0.code; first = c.0.first };
        says = d.1 ++ (c.1 ++ (a.1 ++ (b.1 ++ (not_vat D (grouped Path.TradeTaxTypeCode (some Term.Bt118) g) n ++ (k.1 ++ r.1)))));
        holds = vat (record { taxable = a.0; tax = b.0; category = k.0; rate = r.0; reason = kid_text D 0 n (bytes "ExemptionReason"); code = kid_text D 0 n (bytes "ExemptionReasonCode") }) ∷ [];
        strays = [];
      }

  -- the VAT category and rate of an allowance or a charge
  unfoldable pub category_in : TaxPaths → GroupTerms → ℕ → N → Says X (X × Option (ℤ × ℕ))
  category_in p t g n =
      let k = required_code L.rules D t.category_rule (grouped p.whole t.category g) n (bytes "CategoryCode") in
      let r = percent L.mode D (grouped p.rate t.rate g) n (bytes "RateApplicablePercent") in
      ((k.0, r.0), not_vat D (grouped p.type_code t.category g) n ++ (k.1 ++ r.1))

  -- an absent element is message 9 with its parent's path
  unfoldable pub category_of : TaxPaths → GroupTerms → ℕ → N → List ℕ → Says X (X × Option (ℤ × ℕ))
  category_of p t g n w = maybe ((D.empty, none), missing L.rules t.category_rule (grouped p.parent t.category g)) (category_in p t g) (kid D n w)

  -- the row of an allowance or a charge: category and rate, amount, base, percentage
  unfoldable pub allowance_charge_of : Bool → ℕ → N → Says X (Held X)
  allowance_charge_of b g n =
      let t = group_terms b in
      let v = category_of category_paths t g n (bytes "CategoryTradeTax") in
      let a = required_amount L D t.amount_rule Path.SettlementAllowanceCharge (grouped Path.AllowanceChargeActualAmount t.amount g) n (bytes "ActualAmount") in
      let m = amount L.mode L.currency D (grouped Path.AllowanceChargeBasisAmount t.base g) n (bytes "BasisAmount") in
      let p = percent L.mode D (grouped Path.AllowanceChargeCalculationPercent t.percentage g) n (bytes "CalculationPercent") in (
        cond b charge allowance
            (record { amount = a.0; base = m.0; percentage = p.0; category = v.0.0; rate = v.0.1; reason = kid_text D 0 n (bytes "Reason"); code = kid_text D 0 n (bytes "ReasonCode") }),
        v.1 ++ (a.1 ++ (m.1 ++ p.1)),
      )

  -- an allowance or a charge, by its indicator
  unfoldable pub allowance_or_charge : Counts → N → Act X Counts
  allowance_or_charge s n =
      let i = is_charge D n in
      let r = allowance_charge_of i.0 (cond i.0 s.charges s.allowances) n in
      record { next = counted i.0 s; says = i.1 ++ r.1; holds = r.0 ∷ []; strays = [] }

  -- a logistics charge is a charge where the identifier is that of a conformant extension, else message 20
  unfoldable pub logistics_read : Counts → N → Act X Counts
  logistics_read s n =
      let t = group_terms true in
      let g = s.charges in
      let v = category_of applied_paths t g n (bytes "AppliedTradeTax") in
      let a = required_amount L D t.amount_rule Path.SettlementLogisticsCharge (grouped Path.LogisticsChargeAppliedAmount t.amount g) n (bytes "AppliedAmount") in
      record {
        next = counted true s;
        says = v.1 ++ a.1;
        holds = charge (record { amount = a.0; base = none; percentage = none; category = v.0.0; rate = v.0.1; reason = kid_text D 0 n (bytes "Description"); code = none }) ∷ [];
        strays = [];
      }

  -- by the specification identifier
  unfoldable pub logistics : Counts → N → Act X Counts
  logistics s n = cond L.extension (logistics_read s n) (logistics_left s)
