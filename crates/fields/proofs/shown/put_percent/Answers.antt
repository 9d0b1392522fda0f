use Rattle.fields.proofs.Showing.{percent_absent, percent_there}
use Rattle.fields.proofs.shown.put_percent.Goals as goal

pub returns-then-scale-lt0 : goal.returns-then-scale-lt0
returns-then-scale-lt0 c = search percent_absent

pub returns : goal.returns
returns c = search percent_there
