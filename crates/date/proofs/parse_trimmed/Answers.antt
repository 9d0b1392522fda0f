use Rattle.date.proofs.Dates.{date_length, date_none, date_some}
use Rattle.date.proofs.parse_trimmed.Goals as goal

pub returns-then-t-ne8 : goal.returns-then-t-ne8
returns-then-t-ne8 c = search date_length

pub returns-in-Some : goal.returns-in-Some
returns-in-Some c = search date_some

pub returns-in-None : goal.returns-in-None
returns-in-None c = search date_none
