use borrow.Author.Rules.{rules}
use Rattle.links.proofs.Chains.{fill_on, fill_end}
use Rattle.links.proofs.links.link_each.Goals as goal

pub loop-j-preserved : goal.loop-j-preserved
loop-j-preserved c = (search fill_on, search rules)

pub returns : goal.returns
returns c = search fill_end
