-- What the code's kinds of children stand for.
use Rattle.settlement.specs.Kinds.{Kind, creditor_reference, payment_reference, tax_currency, invoice_currency, payee, payment_means, trade_tax, period, allowance_charge, logistics_charge, payment_terms, summation, preceding_invoice, accounting, other}
use Rattle.kinds.specs.declared.child.PlainKind.{PlainKind}
use Rattle.kinds.specs.declared.child.PlainKind.TheVariants.{CreditorReference, PaymentReference, TaxCurrency, InvoiceCurrency, Payee, Accounting}
use Rattle.kinds.specs.declared.child.BillingKind.{BillingKind}
use Rattle.kinds.specs.declared.child.BillingKind.TheVariants.{Period, PaymentTerms, PaymentMeans}
use Rattle.kinds.specs.declared.child.RowKind.{RowKind}
use Rattle.kinds.specs.declared.child.RowKind.TheVariants.{TradeTax, AllowanceCharge, LogisticsCharge, PrecedingInvoice}
use Rattle.kinds.specs.declared.child.Kind as Code
use Rattle.kinds.specs.declared.child.Kind.TheVariants.{Plain, Row, Billing, Summation, Other}

-- of a child that gives a term or a group alone
abbrev pub plain_is : PlainKind → Kind
plain_is CreditorReference = creditor_reference
plain_is PaymentReference = payment_reference
plain_is TaxCurrency = tax_currency
plain_is InvoiceCurrency = invoice_currency
plain_is Payee = payee
plain_is Accounting = accounting

-- of a child that says when or how is paid
abbrev pub billing_is : BillingKind → Kind
billing_is Period = period
billing_is PaymentTerms = payment_terms
billing_is PaymentMeans = payment_means

-- of a child that makes a row
abbrev pub row_is : RowKind → Kind
row_is TradeTax = trade_tax
row_is AllowanceCharge = allowance_charge
row_is LogisticsCharge = logistics_charge
row_is PrecedingInvoice = preceding_invoice

-- of any child
abbrev pub kind_is : Code.Kind → Kind
kind_is (Plain k) = plain_is k
kind_is (Row k) = row_is k
kind_is (Billing k) = billing_is k
kind_is Summation = summation
kind_is Other = other
