use Rattle.settlement.specs.Payments.{paying}
use Rattle.payment.proofs.walk.read_child.Goals as goal

pub returns-in-TypeCode : goal.returns-in-TypeCode
unfolding paying
returns-in-TypeCode c = rw (← c.part_of.ensures, c.in-TypeCode.is) (c.type_code.ensures _ _ _)

pub returns-in-Information : goal.returns-in-Information
unfolding paying
returns-in-Information c = rw (← c.part_of.ensures, c.in-Information.is) (c.information.ensures _ _ _)

pub returns-in-FinancialCard : goal.returns-in-FinancialCard
unfolding paying
returns-in-FinancialCard c = rw (← c.part_of.ensures, c.in-FinancialCard.is) (c.financial_card.ensures _ _)

pub returns-in-DebtorAccount : goal.returns-in-DebtorAccount
unfolding paying
returns-in-DebtorAccount c = rw (← c.part_of.ensures, c.in-DebtorAccount.is) (c.debtor_account.ensures _ _)

pub returns-in-CreditorAccount : goal.returns-in-CreditorAccount
unfolding paying
returns-in-CreditorAccount c = rw (← c.part_of.ensures, c.in-CreditorAccount.is) (c.creditor_account.ensures _)

pub returns-in-Institution : goal.returns-in-Institution
unfolding paying
returns-in-Institution c = rw (← c.part_of.ensures, c.in-Institution.is) (c.institution.ensures _ _)

pub returns-in-Unknown : goal.returns-in-Unknown
unfolding paying
returns-in-Unknown c = rw (← c.part_of.ensures, c.in-Unknown.is) (c.unmapped_part.ensures _ _)
