-- The children of a settlement, by their names (CII D16B; document 01, `read.rs`), and the lane of the state that each changes.
use Rattle.std.specs.Prelude.{Bool, true, false, cond, List, [], ◌∷◌, ℕ}
use Prim.Native.String.{String}
unfoldable pub use Rattle.text.specs.Place.{meant}

-- the fourteen kinds that are read, and any other
pub data Kind : Type 0 where
  creditor_reference payment_reference tax_currency invoice_currency payee payment_means trade_tax period : Kind
  allowance_charge logistics_charge payment_terms summation preceding_invoice accounting other : Kind
  deriving Discrete as Kind-discrete

-- whether a question was answered by yes
abbrev pub is_yes : {A : Type 0} → Dec A → Bool
is_yes (yes a) = true
is_yes (no a) = false

-- whether two kinds are the same
unfoldable pub same_kind : Kind → Kind → Bool
same_kind a b = is_yes (Kind-discrete a b)

-- the lane that a kind changes: its own, but a logistics charge counts among the charges
unfoldable pub home : Kind → Kind
home k = cond (same_kind k logistics_charge) allowance_charge k

-- the fourteen names that are read, those of rows first; any other is unmapped
unfoldable pub kinds : List (String × Kind)
kinds =
    ("ApplicableTradeTax", trade_tax) ∷
    ("SpecifiedTradeAllowanceCharge", allowance_charge) ∷
    ("SpecifiedLogisticsServiceCharge", logistics_charge) ∷
    ("InvoiceReferencedDocument", preceding_invoice) ∷
    ("CreditorReferenceID", creditor_reference) ∷
    ("PaymentReference", payment_reference) ∷
    ("TaxCurrencyCode", tax_currency) ∷
    ("InvoiceCurrencyCode", invoice_currency) ∷
    ("PayeeTradeParty", payee) ∷
    ("SpecifiedTradeSettlementPaymentMeans", payment_means) ∷
    ("BillingSpecifiedPeriod", period) ∷
    ("SpecifiedTradePaymentTerms", payment_terms) ∷
    ("SpecifiedTradeSettlementHeaderMonetarySummation", summation) ∷
    ("ReceivableSpecifiedTradeAccountingAccount", accounting) ∷
    []

-- the kind of a name
unfoldable pub kind_named : List ℕ → Kind
kind_named s = meant other kinds s
