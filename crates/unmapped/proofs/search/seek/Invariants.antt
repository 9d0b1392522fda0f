use mathlib.Core.Path.{◌≡◌}
use Prim.Native.Nat.{◌-◌, ◌≤◌}
use Rattle.report.specs.Values.{unmapped_of}
use Rattle.unmapped.specs.Row.{standing}
use Rattle.unmapped.specs.Search.{halve, sought}
use Rattle.unmapped.proofs.search.seek.Given as goal

abbrev pub invariant-loop-lo : goal.invariant-loop-lo
invariant-loop-lo l = (l.lo ≤ l.hi) × (l.hi ≤ l.count) × (sought l.text l.list l.count (unmapped_of l.u) ≡ halve (standing l.text l.list (unmapped_of l.u)) (l.hi - l.lo) l.lo l.hi)

abbrev pub decreases-loop-lo : goal.decreases-loop-lo
decreases-loop-lo l = l.hi - l.lo
