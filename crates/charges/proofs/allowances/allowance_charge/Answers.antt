use Rattle.charges.proofs.Steps.{allowance_charge_told}
use Rattle.charges.proofs.allowances.allowance_charge.Goals as goal

pub returns : goal.returns
returns c = allowance_charge_told _ _ _ _ c.is_charge-charge.ensures c.group_terms-g.ensures c.row_in.ensures
