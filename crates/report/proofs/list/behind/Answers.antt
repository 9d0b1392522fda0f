use mathlib.Core.Path.{sym}
use Rattle.report.proofs.Placing.{behind_full, behind_cut, behind_room}
use Rattle.report.proofs.list.behind.Goals as goal

pub returns-then-size-at : goal.returns-then-size-at
returns-then-size-at c = sym (behind_full _ _ _ c.if-size-at.true)

pub returns-then-size-at-2 : goal.returns-then-size-at-2
returns-then-size-at-2 c = sym (behind_cut _ _ _ c.if-size-at.false c.if-size-at-2.true)

pub returns : goal.returns
returns c = sym (behind_room _ _ _ c.if-size-at.false c.if-size-at-2.false)
