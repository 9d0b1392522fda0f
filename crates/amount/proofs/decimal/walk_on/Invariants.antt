use mathlib.Core.Path.{◌≡◌}
use lib.ListN.{drop}
use Rattle.amount.specs.Walk.{run}
use Rattle.amount.proofs.decimal.walk_on.Given as goal

abbrev pub invariant-loop-b : goal.invariant-loop-b
invariant-loop-b l = run l.initial.w l.s ≡ run l.w (drop l.b-index l.s)
