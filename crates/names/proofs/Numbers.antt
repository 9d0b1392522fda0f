-- Laws of the numbers of messages, paths, terms and parents: each finds its own again, so that no two have the same.
use mathlib.Core.Path.{◌≡◌, refl, sym, ◌∙◌, ap}
use mathlib.Core.Bool.{false}
use mathlib.Core.Option.{Option, none, some, none-ne-some}
use Prim.Native.Nat.{ℕ, zero, suc}
use lib.Dec.{eqb, eqb-suc-zero}
use Rattle.names.specs.declared.message.Message.{Message}
use Rattle.names.specs.declared.path.Path.{Path}
use Rattle.names.specs.declared.term.Term.{Term}
use Rattle.names.specs.declared.parent.Parent.{Parent}
use Rattle.names.specs.Numbered.{nth}
use Rattle.names.specs.Message.{message_number, messages}
use Rattle.names.specs.Path.{path_number, paths}
use Rattle.names.specs.Term.{term_number, maybe_term_number, terms}
use Rattle.names.specs.Parent.{parent_number, parents}

-- a number finds its own
pub message_found : (x : Message) → nth messages (message_number x) ≡ some x
unfolding nth messages
message_found Message.UnlistedCurrency = refl
message_found Message.OtherCurrency = refl
message_found Message.AmountMalformed = refl
message_found Message.TooManyDecimals = refl
message_found Message.AmountOutOfRange = refl
message_found Message.NotADecimal = refl
message_found Message.TooManyDigits = refl
message_found Message.NotVat = refl
message_found Message.Missing = refl
message_found Message.OtherDateElement = refl
message_found Message.DateFormat = refl
message_found Message.NotCcyymmdd = refl
message_found Message.NoSuchDay = refl
message_found Message.SecondVatPointCode = refl
message_found Message.UnknownVatPointCode = refl
message_found Message.TaxTotalUnreadable = refl
message_found Message.TaxTotalCurrency = refl
message_found Message.IndicatorMalformed = refl
message_found Message.IndicatorAbsent = refl
message_found Message.LogisticsCharge = refl
message_found Message.CardBesideOther = refl
message_found Message.DebitedAccountBesideOther = refl
message_found Message.AccountBesideOther = refl
message_found Message.ProviderWithoutAccount = refl
message_found Message.MandateBesideOther = refl
message_found Message.CreditorBesideOther = refl

pub path_found : (x : Path) → nth paths (path_number x) ≡ some x
unfolding nth paths
path_found Path.PaymentMeansFinancialCard = refl
path_found Path.PaymentMeansDebtorAccount = refl
path_found Path.PaymentMeansCreditorAccount = refl
path_found Path.PaymentMeansCreditorInstitution = refl
path_found Path.TaxPointDateTimeString = refl
path_found Path.TaxPointDateString = refl
path_found Path.TradeTaxDueDateTypeCode = refl
path_found Path.SettlementTradeTaxDueDateTypeCode = refl
path_found Path.SettlementTradeTax = refl
path_found Path.TradeTaxBasisAmount = refl
path_found Path.TradeTaxCalculatedAmount = refl
path_found Path.TradeTaxTypeCode = refl
path_found Path.TradeTaxRateApplicablePercent = refl
path_found Path.PeriodStartDateTimeString = refl
path_found Path.PeriodStartDateString = refl
path_found Path.PeriodEndDateTimeString = refl
path_found Path.PeriodEndDateString = refl
path_found Path.AllowanceChargeIndicator = refl
path_found Path.CategoryTradeTaxTypeCode = refl
path_found Path.SettlementAllowanceChargeCategoryTradeTax = refl
path_found Path.CategoryTradeTaxRateApplicablePercent = refl
path_found Path.SettlementAllowanceCharge = refl
path_found Path.AllowanceChargeActualAmount = refl
path_found Path.AllowanceChargeBasisAmount = refl
path_found Path.AllowanceChargeCalculationPercent = refl
path_found Path.AppliedTradeTaxTypeCode = refl
path_found Path.SettlementLogisticsChargeAppliedTradeTax = refl
path_found Path.AppliedTradeTaxRateApplicablePercent = refl
path_found Path.SettlementLogisticsCharge = refl
path_found Path.LogisticsChargeAppliedAmount = refl
path_found Path.PaymentTermsDueDateTimeString = refl
path_found Path.PaymentTermsDueDateString = refl
path_found Path.SummationChargeTotalAmount = refl
path_found Path.SummationAllowanceTotalAmount = refl
path_found Path.SummationTaxTotalAmount = refl
path_found Path.SummationRoundingAmount = refl
path_found Path.SummationTotalPrepaidAmount = refl
path_found Path.SettlementSummation = refl
path_found Path.SummationLineTotalAmount = refl
path_found Path.SummationTaxBasisTotalAmount = refl
path_found Path.SummationGrandTotalAmount = refl
path_found Path.SummationDuePayableAmount = refl
path_found Path.SettlementInvoiceReferencedDocument = refl
path_found Path.ReferencedDocumentIssueDateTimeString = refl
path_found Path.ReferencedDocumentIssueDateString = refl
path_found Path.PaymentTermsDirectDebitMandate = refl
path_found Path.SettlementCreditorReference = refl

pub term_found : (t : Term) → nth terms (term_number t) ≡ some t
unfolding nth terms
term_found Term.Bt106 = refl
term_found Term.Bt107 = refl
term_found Term.Bt108 = refl
term_found Term.Bt109 = refl
term_found Term.Bt110 = refl
term_found Term.Bt112 = refl
term_found Term.Bt113 = refl
term_found Term.Bt114 = refl
term_found Term.Bt115 = refl
term_found Term.Bt116 = refl
term_found Term.Bt117 = refl
term_found Term.Bt118 = refl
term_found Term.Bt119 = refl
term_found Term.Bt92 = refl
term_found Term.Bt93 = refl
term_found Term.Bt94 = refl
term_found Term.Bt95 = refl
term_found Term.Bt96 = refl
term_found Term.Bt99 = refl
term_found Term.Bt100 = refl
term_found Term.Bt101 = refl
term_found Term.Bt102 = refl
term_found Term.Bt103 = refl
term_found Term.Bt25 = refl
term_found Term.Bt8 = refl

-- no term's number is that of none
pub term_counted : (t : Term) → eqb (term_number t) 0 ≡ false
unfolding nth
term_counted t = go (term_number t) (term_found t)
  where
    go : (n : ℕ) → nth terms n ≡ some t → eqb n 0 ≡ false
    go zero e = absurd (none-ne-some _ e)
    go (suc i) e = eqb-suc-zero i

-- that of an absent term finds nothing
pub maybe_term_found : (t : Option Term) → nth terms (maybe_term_number t) ≡ t
unfolding nth
maybe_term_found none = refl
maybe_term_found (some t) = term_found t

pub parent_found : (x : Parent) → nth parents (parent_number x) ≡ some x
unfolding nth parents
parent_found Parent.Settlement = refl
parent_found Parent.MonetarySummation = refl
parent_found Parent.PaymentMeans = refl

-- no two have the same number
pub message_same : (a b : Message) → message_number a ≡ message_number b → a ≡ b
message_same a b e =
    let q : some a ≡ some b = sym (message_found a) ∙ ap (nth messages) e ∙ message_found b in
    cc

pub path_same : (a b : Path) → path_number a ≡ path_number b → a ≡ b
path_same a b e =
    let q : some a ≡ some b = sym (path_found a) ∙ ap (nth paths) e ∙ path_found b in
    cc

pub term_same : (a b : Term) → term_number a ≡ term_number b → a ≡ b
term_same a b e =
    let q : some a ≡ some b = sym (term_found a) ∙ ap (nth terms) e ∙ term_found b in
    cc

pub maybe_term_same : (a b : Option Term) → maybe_term_number a ≡ maybe_term_number b → a ≡ b
maybe_term_same a b e = sym (maybe_term_found a) ∙ ap (nth terms) e ∙ maybe_term_found b

pub parent_same : (a b : Parent) → parent_number a ≡ parent_number b → a ≡ b
parent_same a b e =
    let q : some a ≡ some b = sym (parent_found a) ∙ ap (nth parents) e ∙ parent_found b in
    cc
