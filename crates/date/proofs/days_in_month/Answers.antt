use Rattle.date.proofs.Months.{days_february, days_thirty, days_others}
use Rattle.date.proofs.days_in_month.Goals as goal

pub returns-in-2 : goal.returns-in-2
returns-in-2 c = search days_february

pub returns-in-4 : goal.returns-in-4
returns-in-4 c = search days_thirty

pub returns-in_default : goal.returns-in_default
returns-in_default c = search days_others
