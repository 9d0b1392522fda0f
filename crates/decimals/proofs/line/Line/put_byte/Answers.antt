use mathlib.Core.Path.{refl}
use Rattle.report.proofs.Placing.{placed_one, placed_past}
use Rattle.decimals.proofs.line.Line.put_byte.Goals as goal

pub returns-then-self : goal.returns-then-self
returns-then-self c = record { same = refl; placed = placed_one c.if-self.true }

pub returns-else-self : goal.returns-else-self
returns-else-self c = record { same = refl; placed = placed_past c.if-self.false }
