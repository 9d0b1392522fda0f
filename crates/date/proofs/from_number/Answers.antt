use Rattle.date.specs.Date.{numbered}
use Rattle.date.proofs.from_number.Goals as goal

pub returns-then-is_day : goal.returns-then-is_day
unfolding numbered
returns-then-is_day c = simp (c.if-is_day.true, ← c.is_day.ensures)

pub returns : goal.returns
unfolding numbered
returns c = simp (c.if-is_day.false, ← c.is_day.ensures)
