-- Worked examples of document 01's rules and of the requests that changed them, as equations about the definitions, and the example of "The printed reading" with its table.
use Rattle.std.specs.Prelude.{◌≡◌, false, List, [], ◌∷◌, ℕ, pos}
use Rattle.std.proofs.Math.Option.{none, some}
use Prim.Native.String.{String}
use Rattle.text.specs.Utf8.{bytes}
use Rattle.names.specs.declared.message.Message.TheVariants as Message
use Rattle.names.specs.declared.path.Path.TheVariants as Path
use Rattle.names.specs.declared.term.Term.TheVariants as Term
use Rattle.report.specs.Encoding.{absent, filled}
use Rattle.report.specs.Rows.{transfer, vat, allowance}
use Rattle.settlement.specs.Shapes.{Totals, Reading}
use Rattle.settlement.specs.Values.{Lent, site, grouped, entry}
use Rattle.settlement.specs.Settlement.{reading}
use Rattle.settlement.specs.Outcome.{Room, room_for}
use Rattle.settlement.specs.Result.{Result, answer_row}
use Rattle.settlement.specs.Tree.{Tree, tree_doc}
use Rattle.settlement.specs.Edges.{leaf, in_currency, branch, settlement, lent}

-- document 01, "The printed reading": InvoiceCurrencyCode EUR, a payment means holding one account with IBANID DE1, and Foo
abbrev pub account_and_foo : Tree
account_and_foo = settlement (leaf "InvoiceCurrencyCode" "EUR" ∷ branch "SpecifiedTradeSettlementPaymentMeans" (branch "PayeePartyCreditorFinancialAccount" (leaf "IBANID" "DE1" ∷ []) ∷ []) ∷ branch "Foo" [] ∷ [])

-- a table of it, and its text
unfoldable pub example_table : List ℕ
example_table =
    1 ∷ 0 ∷ 0 ∷ 31 ∷ 0 ∷ 0 ∷
    1 ∷ 0 ∷ 31 ∷ 19 ∷ 50 ∷ 3 ∷
    1 ∷ 0 ∷ 53 ∷ 36 ∷ 0 ∷ 0 ∷
    1 ∷ 2 ∷ 89 ∷ 34 ∷ 0 ∷ 0 ∷
    1 ∷ 3 ∷ 123 ∷ 6 ∷ 129 ∷ 3 ∷
    1 ∷ 0 ∷ 132 ∷ 3 ∷ 0 ∷ 0 ∷ []

unfoldable pub example_text : List ℕ
example_text = bytes "ApplicableHeaderTradeSettlementInvoiceCurrencyCodeEURSpecifiedTradeSettlementPaymentMeansPayeePartyCreditorFinancialAccountIBANIDDE1Foo"

-- the same settlement laid out otherwise: level by level, every name and text elsewhere
unfoldable pub other_table : List ℕ
other_table =
    1 ∷ 0 ∷ 104 ∷ 31 ∷ 9 ∷ 0 ∷
    1 ∷ 0 ∷ 85 ∷ 19 ∷ 82 ∷ 3 ∷
    1 ∷ 0 ∷ 46 ∷ 36 ∷ 9 ∷ 0 ∷
    1 ∷ 0 ∷ 43 ∷ 3 ∷ 9 ∷ 0 ∷
    1 ∷ 2 ∷ 9 ∷ 34 ∷ 9 ∷ 0 ∷
    1 ∷ 4 ∷ 3 ∷ 6 ∷ 0 ∷ 3 ∷ []

unfoldable pub other_text : List ℕ
other_text = bytes "DE1IBANIDPayeePartyCreditorFinancialAccountFooSpecifiedTradeSettlementPaymentMeansEURInvoiceCurrencyCodeApplicableHeaderTradeSettlement"

-- the room that six records ask for
abbrev pub example_room : Room
example_room = room_for 6

-- its answer and its rows in numbers: BT-5 at 50, BG-16, one transfer with its account at 129, Foo at 132 under the settlement
pub record ExampleNumbers (r : Result) : Type 0 where
  pub answer : answer_row r ≡
      pos 0 ∷ pos 0 ∷ pos 1 ∷ pos 0 ∷ pos 1 ∷
      pos 50 ∷ pos 3 ∷ absent ∷ pos 0 ∷ absent ∷ absent ∷ absent ∷ absent ∷ pos 0 ∷ absent ∷ pos 0 ∷
      pos 0 ∷ absent ∷ pos 0 ∷ absent ∷ pos 0 ∷ absent ∷ pos 0 ∷ absent ∷ pos 0 ∷ absent ∷ pos 0 ∷
      pos 0 ∷ absent ∷ absent ∷
      pos 1 ∷ absent ∷ pos 0 ∷ absent ∷ pos 0 ∷ absent ∷ pos 0 ∷
      pos 0 ∷ absent ∷ pos 0 ∷ absent ∷ pos 0 ∷ pos 0 ∷ absent ∷ pos 0 ∷ absent ∷ pos 0 ∷ absent ∷ pos 0 ∷
      pos 0 ∷ pos 0 ∷ pos 0 ∷ pos 0 ∷ pos 0 ∷ pos 0 ∷ pos 0 ∷ pos 0 ∷ pos 0 ∷ pos 0 ∷ pos 0 ∷ pos 0 ∷ pos 0 ∷ pos 0 ∷ pos 0 ∷ pos 0 ∷ []
  pub held : r.held ≡ filled (pos 1 ∷ pos 129 ∷ pos 3 ∷ absent ∷ pos 0 ∷ absent ∷ pos 0 ∷ [])
  pub entries : r.entries ≡ []
  pub unmapped : r.unmapped ≡ pos 1 ∷ pos 132 ∷ pos 3 ∷ []

-- the reading of a settlement under the input `0 0 EUR -`
abbrev pub reading_with : List Tree → Reading (List ℕ)
reading_with l = reading lent tree_doc (settlement l)

-- the totals of a settlement with BT-5 EUR, a BT-6 and tax totals
abbrev pub totals_with : String → List Tree → Totals
totals_with bt6 l = (reading_with (leaf "InvoiceCurrencyCode" "EUR" ∷ leaf "TaxCurrencyCode" bt6 ∷ branch "SpecifiedTradeSettlementHeaderMonetarySummation" l ∷ [])).terms.totals

-- an allowance or charge of 5 whose indicator is neither true nor false
abbrev pub bad_indicator : List Tree
bad_indicator = branch "SpecifiedTradeAllowanceCharge" (branch "ChargeIndicator" (leaf "Indicator" "yes" ∷ []) ∷ leaf "ActualAmount" "5" ∷ []) ∷ []

-- under the input `1 256 EUR -` (mode 1, BR-45 in force): numbers on lines of their own, and line ends alone as a required amount, an optional one, a rate and a date
abbrev pub reading_of_lines : Reading (List ℕ)
reading_of_lines =
    reading (record { mode = 1; rules = 256; currency = bytes "EUR"; extension = false }) tree_doc
    (settlement
    (branch "ApplicableTradeTax" (leaf "BasisAmount" "\n" ∷ leaf "CalculatedAmount" "\r\n19.00\r\n" ∷ leaf "CategoryCode" "S" ∷ leaf "RateApplicablePercent" "\n19\t\n" ∷ []) ∷
    branch "ApplicableTradeTax" (leaf "BasisAmount" "\n1" ∷ leaf "RateApplicablePercent" "\r\n" ∷ []) ∷
    branch "SpecifiedTradePaymentTerms" (branch "DueDateDateTime" (leaf "DateTimeString" "\r\n" ∷ []) ∷ []) ∷
    branch "SpecifiedTradeSettlementHeaderMonetarySummation" (leaf "ChargeTotalAmount" "\n1\r\n" ∷ leaf "RoundingAmount" "\n" ∷ []) ∷ []))

-- each with the rule that it shows; L has all rules in force
pub record Examples (L : Lent) : Type 0 where
  -- 1, a currencyID that is not listed; 2, one that is not the invoice's
  pub currencies : (reading_with (branch "ApplicableTradeTax" (in_currency "EURO" "BasisAmount" "1" ∷ in_currency "USD" "CalculatedAmount" "1" ∷ []) ∷ [])).entries ≡
      entry Message.UnlistedCurrency (grouped Path.TradeTaxBasisAmount (some Term.Bt116) 0) (some (bytes "EURO")) ∷ entry Message.OtherCurrency (grouped Path.TradeTaxCalculatedAmount (some Term.Bt117) 0) (some (bytes "USD")) ∷ []
  -- an amount without a text says nothing of its currency, required or not
  pub empty_amounts : (reading_with (branch "ApplicableTradeTax" (in_currency "EURO" "BasisAmount" " " ∷ []) ∷ branch "SpecifiedTradeSettlementHeaderMonetarySummation" (in_currency "EURO" "RoundingAmount" " " ∷ []) ∷ [])).entries ≡ []
  -- 12, not CCYYMMDD; 13, no such day
  pub dates : (reading_with (branch "BillingSpecifiedPeriod" (branch "StartDateTime" (leaf "DateTimeString" "2024022" ∷ []) ∷ branch "EndDateTime" (leaf "DateTimeString" "20230229" ∷ []) ∷ []) ∷ [])).entries ≡
      entry Message.NotCcyymmdd (site Path.PeriodStartDateTimeString none) (some (bytes "2024022")) ∷ entry Message.NoSuchDay (site Path.PeriodEndDateTimeString none) (some (bytes "20230229")) ∷ []
  -- 18: a bad indicator is said, and means an allowance
  pub indicator_entries : (reading_with bad_indicator).entries ≡ entry Message.IndicatorMalformed (site Path.AllowanceChargeIndicator none) (some (bytes "yes")) ∷ []
  pub indicator_rows : (reading_with bad_indicator).held ≡ allowance (record { amount = pos 500; base = none; percentage = none; category = []; rate = none; reason = none; code = none }) ∷ []
  -- IBANID counts before ProprietaryID, wherever it stands, unless it is blank
  pub accounts : (reading_with (branch "SpecifiedTradeSettlementPaymentMeans" (branch "PayeePartyCreditorFinancialAccount" (leaf "ProprietaryID" "P1" ∷ leaf "IBANID" "DE1" ∷ []) ∷ branch "PayeePartyCreditorFinancialAccount" (leaf "IBANID" " " ∷ leaf "ProprietaryID" "P2" ∷ []) ∷ []) ∷ [])).held ≡
      transfer (record { account = some (bytes "DE1"); name = none; provider = none }) ∷ transfer (record { account = some (bytes "P2"); name = none; provider = none }) ∷ []
  -- at the end: without a summation the four absences (9), then a mandate (25) and a creditor identifier (26) beside a card, whatever order they stand in
  pub ending : (reading L tree_doc (settlement (leaf "CreditorReferenceID" "C" ∷ branch "SpecifiedTradeSettlementPaymentMeans" (branch "ApplicableTradeSettlementFinancialCard" [] ∷ []) ∷ branch "SpecifiedTradePaymentTerms" (leaf "DirectDebitMandateID" "M" ∷ []) ∷ []))).entries ≡
      entry Message.Missing (site Path.SettlementSummation (some Term.Bt106)) none ∷
      entry Message.Missing (site Path.SettlementSummation (some Term.Bt109)) none ∷
      entry Message.Missing (site Path.SettlementSummation (some Term.Bt112)) none ∷
      entry Message.Missing (site Path.SettlementSummation (some Term.Bt115)) none ∷
      entry Message.MandateBesideOther (site Path.PaymentTermsDirectDebitMandate none) none ∷
      entry Message.CreditorBesideOther (site Path.SettlementCreditorReference none) none ∷ []
  -- a tax total in a third currency: 16 where it is unreadable, then 17
  pub third_currency : (reading_with (leaf "InvoiceCurrencyCode" "EUR" ∷ leaf "TaxCurrencyCode" "USD" ∷ branch "SpecifiedTradeSettlementHeaderMonetarySummation" (in_currency "CHF" "TaxTotalAmount" "x" ∷ []) ∷ [])).entries ≡
      entry Message.TaxTotalUnreadable (site Path.SummationTaxTotalAmount none) (some (bytes "x")) ∷ entry Message.TaxTotalCurrency (site Path.SummationTaxTotalAmount (some Term.Bt110)) (some (bytes "CHF")) ∷ []
  -- an unreadable tax total does not leave the earlier amount standing: without currencyID and in BT-5 it makes BT-110 blank, in BT-6 BT-111
  pub unreadable : ((totals_with "USD" (leaf "TaxTotalAmount" "10.00" ∷ [])).vat ≡ some (pos 1000)) × ((totals_with "USD" (leaf "TaxTotalAmount" "10.00" ∷ leaf "TaxTotalAmount" "x" ∷ [])).vat ≡ none)
  pub unreadable_bt5 : ((totals_with "USD" (in_currency "EUR" "TaxTotalAmount" "10.00" ∷ [])).vat ≡ some (pos 1000)) × ((totals_with "USD" (in_currency "EUR" "TaxTotalAmount" "10.00" ∷ in_currency "EUR" "TaxTotalAmount" "x" ∷ [])).vat ≡ none)
  pub unreadable_bt6 : ((totals_with "USD" (in_currency "USD" "TaxTotalAmount" "10.00" ∷ [])).vat_accounting ≡ some (pos 1000)) × ((totals_with "USD" (in_currency "USD" "TaxTotalAmount" "10.00" ∷ in_currency "USD" "TaxTotalAmount" "x" ∷ [])).vat_accounting ≡ none)
  -- where BT-5 and BT-6 are the same it makes BT-111 blank, and BT-110, which is not blank, stays
  pub unreadable_both : totals_with "EUR" (in_currency "EUR" "TaxTotalAmount" "10.00" ∷ in_currency "EUR" "TaxTotalAmount" "x" ∷ []) ≡
      record { line = pos 0; allowance = none; charge = none; taxable = pos 0; vat = some (pos 1000); vat_accounting = none; gross = pos 0; paid = none; rounding = none; due = pos 0 }
  -- R-1: in mode 1 line ends are trimmed, and of line ends alone nothing is left: a required amount is missing (9), an optional one and a rate are absent, a date has an empty value (12)
  pub line_ends : reading_of_lines.entries ≡
      entry Message.Missing (grouped Path.SettlementTradeTax (some Term.Bt116) 0) none ∷ entry Message.NotCcyymmdd (site Path.PaymentTermsDueDateTimeString none) (some []) ∷ []
  pub line_ends_rows : reading_of_lines.held ≡ vat (record { taxable = pos 0; tax = pos 1900; category = bytes "S"; rate = some (pos 19, 0); reason = none; code = none }) ∷ vat (record { taxable = pos 100; tax = pos 0; category = []; rate = none; reason = none; code = none }) ∷ []
  pub line_ends_totals : reading_of_lines.terms.totals ≡
      record { line = pos 0; allowance = none; charge = some (pos 100); taxable = pos 0; vat = none; vat_accounting = none; gross = pos 0; paid = none; rounding = none; due = pos 0 }
