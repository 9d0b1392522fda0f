-- The paths of entries: element names of CII D16B, the last ones or all from record 0 down (document 01, "Rows": Entry).
use Rattle.std.specs.Prelude.{List, [], ◌∷◌, ℕ}
use Rattle.names.specs.declared.path.Path.{Path}

-- the number in docs/PATHS.md
abbrev pub path_number : Path → ℕ
path_number Path.PaymentMeansFinancialCard = 1
path_number Path.PaymentMeansDebtorAccount = 2
path_number Path.PaymentMeansCreditorAccount = 3
path_number Path.PaymentMeansCreditorInstitution = 4
path_number Path.TaxPointDateTimeString = 5
path_number Path.TaxPointDateString = 6
path_number Path.TradeTaxDueDateTypeCode = 7
path_number Path.SettlementTradeTaxDueDateTypeCode = 8
path_number Path.SettlementTradeTax = 9
path_number Path.TradeTaxBasisAmount = 10
path_number Path.TradeTaxCalculatedAmount = 11
path_number Path.TradeTaxTypeCode = 12
path_number Path.TradeTaxRateApplicablePercent = 13
path_number Path.PeriodStartDateTimeString = 14
path_number Path.PeriodStartDateString = 15
path_number Path.PeriodEndDateTimeString = 16
path_number Path.PeriodEndDateString = 17
path_number Path.AllowanceChargeIndicator = 18
path_number Path.CategoryTradeTaxTypeCode = 19
path_number Path.SettlementAllowanceChargeCategoryTradeTax = 20
path_number Path.CategoryTradeTaxRateApplicablePercent = 21
path_number Path.SettlementAllowanceCharge = 22
path_number Path.AllowanceChargeActualAmount = 23
path_number Path.AllowanceChargeBasisAmount = 24
path_number Path.AllowanceChargeCalculationPercent = 25
path_number Path.AppliedTradeTaxTypeCode = 26
path_number Path.SettlementLogisticsChargeAppliedTradeTax = 27
path_number Path.AppliedTradeTaxRateApplicablePercent = 28
path_number Path.SettlementLogisticsCharge = 29
path_number Path.LogisticsChargeAppliedAmount = 30
path_number Path.PaymentTermsDueDateTimeString = 31
path_number Path.PaymentTermsDueDateString = 32
path_number Path.SummationChargeTotalAmount = 33
path_number Path.SummationAllowanceTotalAmount = 34
path_number Path.SummationTaxTotalAmount = 35
path_number Path.SummationRoundingAmount = 36
path_number Path.SummationTotalPrepaidAmount = 37
path_number Path.SettlementSummation = 38
path_number Path.SummationLineTotalAmount = 39
path_number Path.SummationTaxBasisTotalAmount = 40
path_number Path.SummationGrandTotalAmount = 41
path_number Path.SummationDuePayableAmount = 42
path_number Path.SettlementInvoiceReferencedDocument = 43
path_number Path.ReferencedDocumentIssueDateTimeString = 44
path_number Path.ReferencedDocumentIssueDateString = 45
path_number Path.PaymentTermsDirectDebitMandate = 46
path_number Path.SettlementCreditorReference = 47

-- the paths in the order of their numbers
unfoldable pub paths : List Path
paths =
    Path.PaymentMeansFinancialCard ∷
    Path.PaymentMeansDebtorAccount ∷
    Path.PaymentMeansCreditorAccount ∷
    Path.PaymentMeansCreditorInstitution ∷
    Path.TaxPointDateTimeString ∷
    Path.TaxPointDateString ∷
    Path.TradeTaxDueDateTypeCode ∷
    Path.SettlementTradeTaxDueDateTypeCode ∷
    Path.SettlementTradeTax ∷
    Path.TradeTaxBasisAmount ∷
    Path.TradeTaxCalculatedAmount ∷
    Path.TradeTaxTypeCode ∷
    Path.TradeTaxRateApplicablePercent ∷
    Path.PeriodStartDateTimeString ∷
    Path.PeriodStartDateString ∷
    Path.PeriodEndDateTimeString ∷
    Path.PeriodEndDateString ∷
    Path.AllowanceChargeIndicator ∷
    Path.CategoryTradeTaxTypeCode ∷
    Path.SettlementAllowanceChargeCategoryTradeTax ∷
    Path.CategoryTradeTaxRateApplicablePercent ∷
    Path.SettlementAllowanceCharge ∷
    Path.AllowanceChargeActualAmount ∷
    Path.AllowanceChargeBasisAmount ∷
    Path.AllowanceChargeCalculationPercent ∷
    Path.AppliedTradeTaxTypeCode ∷
    Path.SettlementLogisticsChargeAppliedTradeTax ∷
    Path.AppliedTradeTaxRateApplicablePercent ∷
    Path.SettlementLogisticsCharge ∷
    Path.LogisticsChargeAppliedAmount ∷
    Path.PaymentTermsDueDateTimeString ∷
    Path.PaymentTermsDueDateString ∷
    Path.SummationChargeTotalAmount ∷
    Path.SummationAllowanceTotalAmount ∷
    Path.SummationTaxTotalAmount ∷
    Path.SummationRoundingAmount ∷
    Path.SummationTotalPrepaidAmount ∷
    Path.SettlementSummation ∷
    Path.SummationLineTotalAmount ∷
    Path.SummationTaxBasisTotalAmount ∷
    Path.SummationGrandTotalAmount ∷
    Path.SummationDuePayableAmount ∷
    Path.SettlementInvoiceReferencedDocument ∷
    Path.ReferencedDocumentIssueDateTimeString ∷
    Path.ReferencedDocumentIssueDateString ∷
    Path.PaymentTermsDirectDebitMandate ∷
    Path.SettlementCreditorReference ∷
    []
