use mathlib.Core.Path.{◌≡◌}
use Prim.Native.Nat.{◌-◌}
use lib.ListN.{length}
use Rattle.tokens.specs.Reads.{pass_name}
use Rattle.tokens.proofs.Turns.{Spans}
use Rattle.tokens.proofs.names.name_end.Given as goal

abbrev pub invariant-loop-j : goal.invariant-loop-j
invariant-loop-j l = Spans l.s l.i l.j × (l.k ≡ pass_name l.s l.j)

abbrev pub decreases-loop-j : goal.decreases-loop-j
decreases-loop-j l = length l.s - l.j
