use mathlib.Core.Path.{◌≡◌}
use Prim.Native.Nat.{◌≤◌, ◌-◌}
use lib.ListN.{length, drop}
use Rattle.std.specs.Prelude.{None}
use Rattle.characters.specs.Characters.{utf8, chars}
use Rattle.characters.specs.TrimWalk.{keep}
use Rattle.characters.proofs.Characters.{good_from}
use Rattle.characters.proofs.trimming.trim_each.Given as goal

abbrev pub invariant-loop-i : goal.invariant-loop-i
invariant-loop-i l = (l.i ≤ length l.s) × (utf8 l.s ≡ good_from l.s l.i) × (keep l.mode None 0 (chars 0 l.s) ≡ keep l.mode l.kept l.i (chars 0 (drop l.i l.s)))

abbrev pub decreases-loop-i : goal.decreases-loop-i
decreases-loop-i l = length l.s - l.i
