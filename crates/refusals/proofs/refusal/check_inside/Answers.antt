use Rattle.std.proofs.Common.{rules, tests}
use Rattle.table.proofs.Scans.{first_in_range}
use Rattle.refusals.specs.Refusals.{outside}
use Rattle.refusals.proofs.refusal.check_inside.Goals as goal

pub returns : goal.returns
returns c = simp (c.refuse.ensures, first_in_range (outside c.args.table.now.records.now c.args.table.now.text.now) _ _ _ c.find.result c.find.ensures.ran (λ x b q h. (search rules, search (rules, tests))), c.count-n.ensures)
