use Rattle.std.proofs.Common.{rules, tests}
use Rattle.table.proofs.Scans.{first_in_range}
use Rattle.refusals.specs.Refusals.{misplaced}
use Rattle.refusals.proofs.refusal.check_placed.Goals as goal

pub returns : goal.returns
returns c = simp (c.refuse.ensures, first_in_range (misplaced c.args.table.now.records.now) _ _ _ c.find.result c.find.ensures.ran (λ x b q h. (search rules, search (rules, tests))), c.count-n.ensures)
