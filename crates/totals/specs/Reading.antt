-- What the code's values mean, and what a reading of a summation's children makes.
use Rattle.std.specs.Prelude.{◌≡◌, [], ℕ, ℤ}
use Rattle.std.proofs.Math.Option.{Option, none, some}
use Rattle.text.specs.Utf8.{bytes}
use Rattle.names.specs.declared.path.Path.TheVariants as Path
use Rattle.names.specs.declared.term.Term.TheVariants as Term
use Rattle.report.specs.Rows.{Place}
use Rattle.report.specs.Values.{text_of, amount_of}
use Rattle.settlement.specs.Document.{Doc}
use Rattle.settlement.specs.Shapes.{Totals, Currencies, Act}
use Rattle.settlement.specs.Summation.{Summing}
use Rattle.settlement.specs.Values.{Lent, Says, site, amount}
use Rattle.amounts.specs.Amounts.{saying}
use Rattle.values.specs.Sites.{site_of}
use Rattle.totals.specs.declared.firsts.First.{First}
use Rattle.totals.specs.declared.firsts.Firsts.{Firsts}
use Rattle.totals.specs.declared.state.Currencies as CodeCurrencies
use Rattle.totals.specs.declared.state.Sums as Code
use Rattle.totals.specs.declared.state.Totals as CodeTotals
use Rattle.totals.specs.declared.sum.Optional.{Optional}
use Rattle.totals.specs.declared.tax.Taxes.{Taxes}

-- BT-5 and BT-6 as read so far
abbrev pub currencies : CodeCurrencies.Currencies → Currencies Place
currencies c = record { bt5 = text_of c.bt5; bt6 = text_of c.bt6 }

-- BG-22
abbrev pub totals_of : CodeTotals.Totals → Totals
totals_of t =
    record {
      line = t.line.0;
      allowance = amount_of t.sums.allowance;
      charge = amount_of t.sums.charge;
      taxable = t.taxable.0;
      vat = amount_of t.sums.vat;
      vat_accounting = amount_of t.sums.accounting;
      gross = t.gross.0;
      paid = amount_of t.sums.paid;
      rounding = amount_of t.sums.rounding;
      due = t.due.0;
    }

-- BT-110 and BT-111, of the code and of a state
abbrev pub taxes_of : Taxes → Option ℤ × Option ℤ
taxes_of t = (amount_of t.vat, amount_of t.accounting)

abbrev pub taxes : Summing Place → Option ℤ × Option ℤ
taxes m = (m.vat, m.vat_accounting)

-- all amounts that may be absent, too
abbrev pub sums_of : Code.Sums → Option ℤ × Option ℤ × Option ℤ × Option ℤ × Option ℤ × Option ℤ
sums_of s = (amount_of s.allowance, amount_of s.charge, amount_of s.vat, amount_of s.accounting, amount_of s.paid, amount_of s.rounding)

abbrev pub amounts : Summing Place → Option ℤ × Option ℤ × Option ℤ × Option ℤ × Option ℤ × Option ℤ
amounts m = (m.allowance, m.charge, m.vat, m.vat_accounting, m.paid, m.rounded)

-- what a state holds of the amounts, with what it says and does not map
abbrev pub made : {A : Type 0} → (Summing Place → A) → Summing Place → Act Place A
made f m = record { next = f m; says = m.says; holds = []; strays = m.strays }

-- a state that holds BT-110 and BT-111 alone, and what such a state became
abbrev pub taxing : Option ℤ × Option ℤ → Summing Place
taxing t = record { allowance = none; charge = none; vat = t.0; vat_accounting = t.1; rounded = none; paid = none; says = []; strays = [] }

abbrev pub taxed : Summing Place → Says Place (Option ℤ × Option ℤ)
taxed m = (taxes m, m.says)

-- what the first child of a name says
abbrev pub said_by : First → Says Place (Option ℤ)
said_by f = saying f.heard (site_of f.site)

-- of an optional amount's name
abbrev pub first_of : Firsts → Optional → First
first_of f Optional.AllowanceTotal = f.allowance
first_of f Optional.ChargeTotal = f.charge
first_of f Optional.Rounding = f.rounding
first_of f Optional.Prepaid = f.paid

-- what the first child of each such name of a summation n says was heard
pub record Hears (L : Lent) (D : Doc ℕ Place) (n : ℕ) (f : Firsts) : Type 0 where
  pub allowance : said_by f.allowance ≡ amount L.mode L.currency D (site Path.SummationAllowanceTotalAmount (some Term.Bt107)) n (bytes "AllowanceTotalAmount")
  pub charge : said_by f.charge ≡ amount L.mode L.currency D (site Path.SummationChargeTotalAmount (some Term.Bt108)) n (bytes "ChargeTotalAmount")
  pub rounding : said_by f.rounding ≡ amount L.mode L.currency D (site Path.SummationRoundingAmount (some Term.Bt114)) n (bytes "RoundingAmount")
  pub paid : said_by f.paid ≡ amount L.mode L.currency D (site Path.SummationTotalPrepaidAmount (some Term.Bt113)) n (bytes "TotalPrepaidAmount")
