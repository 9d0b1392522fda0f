use Rattle.fields.proofs.Showing.{amount_absent, amount_there}
use Rattle.fields.proofs.shown.put_amount.Goals as goal

pub returns-then-natural-eq0 : goal.returns-then-natural-eq0
returns-then-natural-eq0 c = search amount_absent

pub returns : goal.returns
returns c = search amount_there
