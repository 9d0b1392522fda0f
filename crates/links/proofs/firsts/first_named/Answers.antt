use Rattle.std.proofs.Common.{rules, tests}
use Rattle.table.specs.Table.{named}
use Rattle.links.proofs.Chains.{first_sibling}
use Rattle.links.proofs.firsts.first_named.Goals as goal

pub returns : goal.returns
returns c = first_sibling (named c.args.table.now.records.now c.args.table.now.text.now c.args.want.now) _ _ _ c.find.result c.find.ensures.ran (λ x b q h. (search rules, search (rules, tests)))
