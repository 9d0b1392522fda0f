-- Allowances and charges in the code's terms.
use Rattle.std.specs.Prelude.{Bool, true, cond, List, [], ◌∷◌, ◌++◌, ℕ, ℤ}
use Rattle.std.proofs.Math.Option.{Option, none, some}
use Rattle.text.specs.Utf8.{bytes}
use Rattle.text.specs.Options.{option_of}
use Rattle.names.specs.declared.message.Message.TheVariants as Message
use Rattle.names.specs.declared.path.Path.{Path}
use Rattle.report.specs.Rows.{Place, AllowanceCharge}
use Rattle.report.specs.Values.{allowance_charge_of}
use Rattle.settlement.specs.Document.{Doc, maybe}
use Rattle.settlement.specs.Shapes.{Counts}
use Rattle.settlement.specs.Tax.{TaxPaths, category_paths, applied_paths, GroupTerms, group_terms, is_charge, category_in, category_of}
use Rattle.settlement.specs.Values.{Lent, Says, site, grouped, entry, kid_text, missing, amount, required_amount, percent}
use Rattle.charges.specs.declared.shapes.Group as Code
use Rattle.charges.specs.declared.shapes.TaxPaths as CodePaths
use Rattle.std.specs.declared.option.Option as code
use Rattle.std.specs.Prelude.{None, Some}
use Rattle.report.specs.declared.held.AllowanceCharge as CodeRow

-- the terms and rules of a group
abbrev pub group_terms_of : Code.Group → GroupTerms
group_terms_of g = record { amount = option_of g.amount; base = option_of g.base; percentage = option_of g.percentage; category = option_of g.category; rate = option_of g.rate; amount_rule = g.amount_rule; category_rule = g.category_rule }

-- the paths of a VAT category's element
abbrev pub tax_paths_of : CodePaths.TaxPaths → TaxPaths
tax_paths_of p = record { type_code = p.type_code; whole = p.whole; rate = p.rate; parent = p.parent }

-- BG-20 and BG-21 made so far
abbrev pub counts_of : ℕ → ℕ → Counts
counts_of allowances charges = record { allowances = allowances; charges = charges }

-- a charge that may be absent
abbrev pub maybe_charge_of : code.Option CodeRow.AllowanceCharge → Option (AllowanceCharge Place)
maybe_charge_of None = none
maybe_charge_of (Some a) = some (allowance_charge_of a)

-- a category whose element is missing: "" and no rate, and message 9 with the path of its parent
unfoldable pub no_category : ℕ → Path → GroupTerms → ℕ → Says Place (Place × Option (ℤ × ℕ))
no_category rules parent t g = ((record { start = 0; len = 0 }, none), missing rules t.category_rule (grouped parent t.category g))

-- the category and rate in a child, if there is one; `category_kid` joins it to the definition of the reading
unfoldable pub category_found : Lent → Doc ℕ Place → TaxPaths → GroupTerms → ℕ → Option ℕ → Says Place (Place × Option (ℤ × ℕ))
category_found L D p t g o = maybe (no_category L.rules p.parent t g) (category_in L D p t g) o

-- the base of an allowance or a charge
abbrev pub basis_amount : ℕ → List ℕ → Doc ℕ Place → GroupTerms → ℕ → ℕ → Says Place (Option ℤ)
basis_amount mode currency D t g n = amount mode currency D (grouped Path.AllowanceChargeBasisAmount t.base g) n (bytes "BasisAmount")

-- its percentage
abbrev pub calculation_percent : ℕ → Doc ℕ Place → GroupTerms → ℕ → ℕ → Says Place (Option (ℤ × ℕ))
calculation_percent mode D t g n = percent mode D (grouped Path.AllowanceChargeCalculationPercent t.percentage g) n (bytes "CalculationPercent")

module _ (L : Lent) (D : Doc ℕ Place) (t : GroupTerms) (g n : ℕ) where
  -- its category and rate
  abbrev pub category_trade_tax : Says Place (Place × Option (ℤ × ℕ))
  category_trade_tax = category_of L D category_paths t g n (bytes "CategoryTradeTax")

  -- its amount
  abbrev pub actual_amount : Says Place ℤ
  actual_amount = required_amount L D t.amount_rule Path.SettlementAllowanceCharge (grouped Path.AllowanceChargeActualAmount t.amount g) n (bytes "ActualAmount")

  -- its row, with what it says
  unfoldable pub row_says : Says Place (AllowanceCharge Place)
  row_says =
      let v = category_trade_tax in
      let a = actual_amount in
      let m = basis_amount L.mode L.currency D t g n in
      let p = calculation_percent L.mode D t g n in (
        record { amount = a.0; base = m.0; percentage = p.0; category = v.0.0; rate = v.0.1; reason = kid_text D 0 n (bytes "Reason"); code = kid_text D 0 n (bytes "ReasonCode") },
        v.1 ++ (a.1 ++ (m.1 ++ p.1)),
      )

  -- the category and rate of a logistics charge
  abbrev pub applied_trade_tax : Says Place (Place × Option (ℤ × ℕ))
  applied_trade_tax = category_of L D applied_paths t g n (bytes "AppliedTradeTax")

  -- its amount
  abbrev pub applied_amount : Says Place ℤ
  applied_amount = required_amount L D t.amount_rule Path.SettlementLogisticsCharge (grouped Path.LogisticsChargeAppliedAmount t.amount g) n (bytes "AppliedAmount")

module _ (L : Lent) (D : Doc ℕ Place) where
  -- whether an allowance or a charge is a charge, and its row, with what it says
  unfoldable pub allowance_charge_says : Counts → ℕ → Says Place (Bool × AllowanceCharge Place)
  allowance_charge_says s n =
      let i = is_charge D n in
      let r = row_says L D (group_terms i.0) (cond i.0 s.charges s.allowances) n in
      ((i.0, r.0), i.1 ++ r.1)

  -- the row of a logistics charge, with what it says
  unfoldable pub logistics_row : ℕ → ℕ → Says Place (AllowanceCharge Place)
  logistics_row g n =
      let v = applied_trade_tax L D (group_terms true) g n in
      let a = applied_amount L D (group_terms true) g n in
      (record { amount = a.0; base = none; percentage = none; category = v.0.0; rate = v.0.1; reason = kid_text D 0 n (bytes "Description"); code = none }, v.1 ++ a.1)

  -- a logistics charge: its row where the identifier is that of a conformant extension, else message 20 alone
  unfoldable pub logistics_says : ℕ → ℕ → Says Place (Option (AllowanceCharge Place))
  logistics_says g n =
      cond L.extension (some (logistics_row g n).0, (logistics_row g n).1)
      (none, entry Message.LogisticsCharge (site Path.SettlementLogisticsCharge none) none ∷ [])
