use Rattle.fields.proofs.Showing.{date_absent, date_there}
use Rattle.fields.proofs.shown.put_date.Goals as goal

pub returns-then-date-lt0 : goal.returns-then-date-lt0
returns-then-date-lt0 c = search date_absent

pub returns : goal.returns
returns c = search date_there
