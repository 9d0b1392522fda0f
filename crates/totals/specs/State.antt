-- What the code's kinds of children mean.
use Rattle.settlement.specs.Summation.{Sum, required, allowance_total, charge_total, tax_total, rounding, prepaid}
use Rattle.settlement.specs.Summation as Def
use Rattle.totals.specs.declared.sum.Optional.{Optional}
use Rattle.totals.specs.declared.sum.Sum as Code
use Rattle.totals.specs.declared.sum.Sum.TheVariants as CodeSum

-- which optional amount a child is
abbrev pub kind_of : Optional → Sum
kind_of Optional.AllowanceTotal = allowance_total
kind_of Optional.ChargeTotal = charge_total
kind_of Optional.Rounding = rounding
kind_of Optional.Prepaid = prepaid

-- what a child is
abbrev pub sum_is : Code.Sum → Sum
sum_is CodeSum.Required = required
sum_is (CodeSum.Optional q) = kind_of q
sum_is CodeSum.TaxTotal = tax_total
sum_is CodeSum.Unread = Def.unread
