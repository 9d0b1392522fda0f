-- What the code's part of a payment means stands for.
use Rattle.settlement.specs.Payments.{Part, type_code, information, financial_card, debtor_account, creditor_account, institution, unknown}
use Rattle.payment.specs.declared.parts.Part as Code
use Rattle.payment.specs.declared.parts.Part.TheVariants.{TypeCode, Information, FinancialCard, DebtorAccount, CreditorAccount, Institution, Unknown}

abbrev pub part_is : Code.Part → Part
part_is TypeCode = type_code
part_is Information = information
part_is FinancialCard = financial_card
part_is DebtorAccount = debtor_account
part_is CreditorAccount = creditor_account
part_is Institution = institution
part_is Unknown = unknown
