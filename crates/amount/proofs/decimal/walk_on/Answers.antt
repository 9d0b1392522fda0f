use Rattle.amount.proofs.Walks.{run_left, run_on, run_end}
use Rattle.amount.proofs.decimal.walk_on.Goals as goal

pub returns-in-Malformed : goal.returns-in-Malformed
returns-in-Malformed c = search run_left

pub loop-b-preserved : goal.loop-b-preserved
loop-b-preserved c = search run_on

pub returns : goal.returns
returns c = search run_end
