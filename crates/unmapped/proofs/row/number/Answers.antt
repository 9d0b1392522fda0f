use Rattle.unmapped.specs.Row.{number}
use Rattle.unmapped.proofs.Reading.{past_rows}
use Rattle.unmapped.proofs.row.number.Goals as goal

pub returns-then-k-list : goal.returns-then-k-list
unfolding number
returns-then-k-list c = c.number_at.ensures

pub returns : goal.returns
returns c = search past_rows
