-- What one child says, read from the child alone, for the laws that say a reading without a state (document 01, "Rows": Held, and `read.rs`).
use Rattle.std.specs.Prelude.{Bool, true, cond, not, ◌&&◌, List, ℕ, ℤ, pos}
use Rattle.std.proofs.Math.Option.{Option, none}
use Rattle.text.specs.Utf8.{bytes}
use Rattle.amount.specs.Amount.{parsed_amount}
use Rattle.amount.specs.Percentage.{parsed_percentage}
use Rattle.codes.specs.DateFormat.{date_format}
use Rattle.date.specs.Date.{parsed_date}
use Rattle.report.specs.Rows.{Vat, AllowanceCharge, Preceding}
use Rattle.settlement.specs.Document.{Doc, maybe, or_else, or}
use Rattle.settlement.specs.Values.{Lent, text_in, text_bytes, kid, kid_text, attribute, wrong_currency}
use Rattle.settlement.specs.Tax.{is_charge}
use Rattle.settlement.specs.Summation.{is_none}
use Rattle.settlement.specs.Last.{is_named}

-- the code in the first child of a name, "" where it is missing or blank
unfoldable pub code_in : {N X : Type 0} → Doc N X → N → List ℕ → X
code_in D n w = or D.empty (kid_text D 0 n w)

-- currencyID is missing, or listed and the invoice's
unfoldable pub right_currency : {N X : Type 0} → List ℕ → Doc N X → N → Bool
right_currency currency D e = maybe true (λ c. is_none (wrong_currency currency (D.bytes c))) (attribute D e (bytes "currencyID"))

module _ {N X : Type 0} (mode : ℕ) (currency : List ℕ) (D : Doc N X) where
  -- an element's amount: absent where it is missing, unreadable or in a wrong currency
  unfoldable pub amount_at : N → Option ℤ
  amount_at e = maybe none (λ x. cond (right_currency currency D e) (parsed_amount mode (text_bytes D e)).value none) (text_in D mode e)

  -- that of the first child of a name
  unfoldable pub amount_in : N → List ℕ → Option ℤ
  amount_in n w = maybe none amount_at (kid D n w)

module _ {N X : Type 0} (mode : ℕ) (D : Doc N X) where
  -- an element's percentage
  unfoldable pub percent_at : N → Option (ℤ × ℕ)
  percent_at e = maybe none (λ x. (parsed_percentage mode (text_bytes D e)).value) (text_in D mode e)

  -- that of the first child of a name
  unfoldable pub percent_in : N → List ℕ → Option (ℤ × ℕ)
  percent_in n w = maybe none percent_at (kid D n w)

  -- a date element's day, in the format 102 or without one
  unfoldable pub day_at : N → Option ℕ
  day_at e = cond (maybe true (λ f. date_format (D.bytes f)) (D.attr e (bytes "format"))) (parsed_date mode (text_bytes D e)).value none

  -- that in the first child of a name: DateTimeString, else DateString
  unfoldable pub day_in : N → List ℕ → Option ℕ
  day_in n w = maybe none (λ d. maybe none day_at (or_else (kid D d (bytes "DateTimeString")) (kid D d (bytes "DateString")))) (kid D n w)

  -- the VAT category and rate in the first child of a name
  unfoldable pub category_and_rate : N → List ℕ → X × Option (ℤ × ℕ)
  category_and_rate n w = maybe (D.empty, none) (λ e. (code_in D e (bytes "CategoryCode"), percent_in e (bytes "RateApplicablePercent"))) (kid D n w)

  -- BG-3: BT-25, BT-26
  unfoldable pub preceding_row : N → Preceding X
  preceding_row n = record { reference = code_in D n (bytes "IssuerAssignedID"); date = day_in n (bytes "FormattedIssueDateTime") }

module _ {N X : Type 0} (L : Lent) (D : Doc N X) where
  -- a required amount, 0 where it is missing or can't be read
  unfoldable pub amount_or_zero : N → List ℕ → ℤ
  amount_or_zero n w = or (pos 0) (amount_in L.mode L.currency D n w)

  -- BG-23: BT-116, BT-117, BT-118, BT-119, BT-120, BT-121
  unfoldable pub vat_row : N → Vat X
  vat_row n =
      record {
        taxable = amount_or_zero n (bytes "BasisAmount");
        tax = amount_or_zero n (bytes "CalculatedAmount");
        category = code_in D n (bytes "CategoryCode");
        rate = percent_in L.mode D n (bytes "RateApplicablePercent");
        reason = kid_text D 0 n (bytes "ExemptionReason");
        code = kid_text D 0 n (bytes "ExemptionReasonCode");
      }

  -- BG-20 and BG-21: BT-92 to BT-98, BT-99 to BT-105
  unfoldable pub allowance_charge_row : N → AllowanceCharge X
  allowance_charge_row n =
      record {
        amount = amount_or_zero n (bytes "ActualAmount");
        base = amount_in L.mode L.currency D n (bytes "BasisAmount");
        percentage = percent_in L.mode D n (bytes "CalculationPercent");
        category = (category_and_rate L.mode D n (bytes "CategoryTradeTax")).0;
        rate = (category_and_rate L.mode D n (bytes "CategoryTradeTax")).1;
        reason = kid_text D 0 n (bytes "Reason");
        code = kid_text D 0 n (bytes "ReasonCode");
      }

  -- BG-21 of a logistics charge: BT-99, BT-102, BT-103, BT-104
  unfoldable pub logistics_row : N → AllowanceCharge X
  logistics_row n =
      record {
        amount = amount_or_zero n (bytes "AppliedAmount");
        base = none;
        percentage = none;
        category = (category_and_rate L.mode D n (bytes "AppliedTradeTax")).0;
        rate = (category_and_rate L.mode D n (bytes "AppliedTradeTax")).1;
        reason = kid_text D 0 n (bytes "Description");
        code = none;
      }

  -- an allowance: its indicator does not say charge
  unfoldable pub makes_allowance : N → Bool
  makes_allowance n = is_named D "SpecifiedTradeAllowanceCharge" n && not (is_charge D n).0

  -- a charge: its indicator says so, or it is a logistics charge under the identifier of a conformant extension
  unfoldable pub makes_charge : N → Bool
  makes_charge n = cond (is_named D "SpecifiedTradeAllowanceCharge" n) (is_charge D n).0 (is_named D "SpecifiedLogisticsServiceCharge" n && L.extension)

  -- the row of a charge
  unfoldable pub charge_row : N → AllowanceCharge X
  charge_row n = cond (is_named D "SpecifiedTradeAllowanceCharge" n) (allowance_charge_row n) (logistics_row n)
