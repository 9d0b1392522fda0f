use Rattle.groups.proofs.Steps.{point_told}
use Rattle.groups.proofs.taxes.point.Goals as goal

pub returns : goal.returns
returns c = point_told _ _ _ _ _ _ c.child_text-code.ensures c.point_date-point.ensures c.point_code-after.ensures
