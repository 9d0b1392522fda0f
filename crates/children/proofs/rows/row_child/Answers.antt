use Rattle.children.proofs.rows.row_child.Goals as goal

pub vat_breakdown-requires : goal.vat_breakdown-requires
vat_breakdown-requires c = c.requires.breakdowns

pub allowance_charge-requires : goal.allowance_charge-requires
allowance_charge-requires c = (c.requires.allowances, c.requires.charges)

pub logistics_charge-requires : goal.logistics_charge-requires
logistics_charge-requires c = c.requires.charges

pub preceding_invoice-requires : goal.preceding_invoice-requires
preceding_invoice-requires c = c.requires.invoices

pub returns-in-TradeTax : goal.returns-in-TradeTax
returns-in-TradeTax c p b m u = rw c.in-TradeTax.is (c.vat_breakdown.ensures p b m u)

pub returns-in-AllowanceCharge : goal.returns-in-AllowanceCharge
returns-in-AllowanceCharge c p b m u = rw c.in-AllowanceCharge.is (c.allowance_charge.ensures p b m u)

pub returns-in-LogisticsCharge : goal.returns-in-LogisticsCharge
returns-in-LogisticsCharge c p b m u = rw c.in-LogisticsCharge.is (c.logistics_charge.ensures p b m u)

pub returns-in-PrecedingInvoice : goal.returns-in-PrecedingInvoice
returns-in-PrecedingInvoice c p b m u = rw c.in-PrecedingInvoice.is (c.preceding_invoice.ensures _ p b m u)
