-- The texts of paths: element names of CII D16B, the last ones or all from record 0 down (document 01, "Rows": Entry).
use Rattle.std.specs.Prelude.{List, ℕ}
use Prim.Native.String.{String}
use Rattle.names.specs.declared.path.Path.{Path}
use Rattle.names.specs.Path.{paths}
use Rattle.labels.specs.Text.{text_at}

-- the path as the Rust prints it
abbrev pub path_text : Path → String
path_text Path.PaymentMeansFinancialCard = "SpecifiedTradeSettlementPaymentMeans/ApplicableTradeSettlementFinancialCard"
path_text Path.PaymentMeansDebtorAccount = "SpecifiedTradeSettlementPaymentMeans/PayerPartyDebtorFinancialAccount"
path_text Path.PaymentMeansCreditorAccount = "SpecifiedTradeSettlementPaymentMeans/PayeePartyCreditorFinancialAccount"
path_text Path.PaymentMeansCreditorInstitution = "SpecifiedTradeSettlementPaymentMeans/PayeeSpecifiedCreditorFinancialInstitution"
path_text Path.TaxPointDateTimeString = "ApplicableTradeTax/TaxPointDate/DateTimeString"
path_text Path.TaxPointDateString = "ApplicableTradeTax/TaxPointDate/DateString"
path_text Path.TradeTaxDueDateTypeCode = "ApplicableTradeTax/DueDateTypeCode"
path_text Path.SettlementTradeTaxDueDateTypeCode = "ApplicableHeaderTradeSettlement/ApplicableTradeTax/DueDateTypeCode"
path_text Path.SettlementTradeTax = "ApplicableHeaderTradeSettlement/ApplicableTradeTax"
path_text Path.TradeTaxBasisAmount = "ApplicableTradeTax/BasisAmount"
path_text Path.TradeTaxCalculatedAmount = "ApplicableTradeTax/CalculatedAmount"
path_text Path.TradeTaxTypeCode = "ApplicableTradeTax/TypeCode"
path_text Path.TradeTaxRateApplicablePercent = "ApplicableTradeTax/RateApplicablePercent"
path_text Path.PeriodStartDateTimeString = "BillingSpecifiedPeriod/StartDateTime/DateTimeString"
path_text Path.PeriodStartDateString = "BillingSpecifiedPeriod/StartDateTime/DateString"
path_text Path.PeriodEndDateTimeString = "BillingSpecifiedPeriod/EndDateTime/DateTimeString"
path_text Path.PeriodEndDateString = "BillingSpecifiedPeriod/EndDateTime/DateString"
path_text Path.AllowanceChargeIndicator = "SpecifiedTradeAllowanceCharge/ChargeIndicator/Indicator"
path_text Path.CategoryTradeTaxTypeCode = "CategoryTradeTax/TypeCode"
path_text Path.SettlementAllowanceChargeCategoryTradeTax = "ApplicableHeaderTradeSettlement/SpecifiedTradeAllowanceCharge/CategoryTradeTax"
path_text Path.CategoryTradeTaxRateApplicablePercent = "CategoryTradeTax/RateApplicablePercent"
path_text Path.SettlementAllowanceCharge = "ApplicableHeaderTradeSettlement/SpecifiedTradeAllowanceCharge"
path_text Path.AllowanceChargeActualAmount = "SpecifiedTradeAllowanceCharge/ActualAmount"
path_text Path.AllowanceChargeBasisAmount = "SpecifiedTradeAllowanceCharge/BasisAmount"
path_text Path.AllowanceChargeCalculationPercent = "SpecifiedTradeAllowanceCharge/CalculationPercent"
path_text Path.AppliedTradeTaxTypeCode = "AppliedTradeTax/TypeCode"
path_text Path.SettlementLogisticsChargeAppliedTradeTax = "ApplicableHeaderTradeSettlement/SpecifiedLogisticsServiceCharge/AppliedTradeTax"
path_text Path.AppliedTradeTaxRateApplicablePercent = "AppliedTradeTax/RateApplicablePercent"
path_text Path.SettlementLogisticsCharge = "ApplicableHeaderTradeSettlement/SpecifiedLogisticsServiceCharge"
path_text Path.LogisticsChargeAppliedAmount = "SpecifiedLogisticsServiceCharge/AppliedAmount"
path_text Path.PaymentTermsDueDateTimeString = "SpecifiedTradePaymentTerms/DueDateDateTime/DateTimeString"
path_text Path.PaymentTermsDueDateString = "SpecifiedTradePaymentTerms/DueDateDateTime/DateString"
path_text Path.SummationChargeTotalAmount = "SpecifiedTradeSettlementHeaderMonetarySummation/ChargeTotalAmount"
path_text Path.SummationAllowanceTotalAmount = "SpecifiedTradeSettlementHeaderMonetarySummation/AllowanceTotalAmount"
path_text Path.SummationTaxTotalAmount = "SpecifiedTradeSettlementHeaderMonetarySummation/TaxTotalAmount"
path_text Path.SummationRoundingAmount = "SpecifiedTradeSettlementHeaderMonetarySummation/RoundingAmount"
path_text Path.SummationTotalPrepaidAmount = "SpecifiedTradeSettlementHeaderMonetarySummation/TotalPrepaidAmount"
path_text Path.SettlementSummation = "ApplicableHeaderTradeSettlement/SpecifiedTradeSettlementHeaderMonetarySummation"
path_text Path.SummationLineTotalAmount = "SpecifiedTradeSettlementHeaderMonetarySummation/LineTotalAmount"
path_text Path.SummationTaxBasisTotalAmount = "SpecifiedTradeSettlementHeaderMonetarySummation/TaxBasisTotalAmount"
path_text Path.SummationGrandTotalAmount = "SpecifiedTradeSettlementHeaderMonetarySummation/GrandTotalAmount"
path_text Path.SummationDuePayableAmount = "SpecifiedTradeSettlementHeaderMonetarySummation/DuePayableAmount"
path_text Path.SettlementInvoiceReferencedDocument = "ApplicableHeaderTradeSettlement/InvoiceReferencedDocument"
path_text Path.ReferencedDocumentIssueDateTimeString = "InvoiceReferencedDocument/FormattedIssueDateTime/DateTimeString"
path_text Path.ReferencedDocumentIssueDateString = "InvoiceReferencedDocument/FormattedIssueDateTime/DateString"
path_text Path.PaymentTermsDirectDebitMandate = "SpecifiedTradePaymentTerms/DirectDebitMandateID"
path_text Path.SettlementCreditorReference = "ApplicableHeaderTradeSettlement/CreditorReferenceID"

-- the same by its number, nothing where no path has it
unfoldable pub path_text_at : ℕ → List ℕ
path_text_at n = text_at path_text paths n
