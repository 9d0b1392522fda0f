use Rattle.settlement.specs.Values as reading
use Rattle.values.proofs.Telling.{said_none}
use Rattle.values.proofs.saying.Entries.missing.Goals as goal

pub returns-then-is_in_force : goal.returns-then-is_in_force
unfolding reading.missing
returns-then-is_in_force c = rw (← c.is_in_force.ensures, c.if-is_in_force.true) c.say.ensures

pub returns-else-is_in_force : goal.returns-else-is_in_force
unfolding reading.missing
returns-else-is_in_force c = rw (← c.is_in_force.ensures, c.if-is_in_force.false) (said_none _)
