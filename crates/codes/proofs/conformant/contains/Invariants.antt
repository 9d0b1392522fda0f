use Rattle.std.proofs.Common.{◌≡◌, drop}
use Rattle.codes.specs.Conformant.{contains}
use Rattle.codes.proofs.conformant.contains.Given as goal

abbrev pub invariant-loop-i : goal.invariant-loop-i
invariant-loop-i l = contains l.needle l.s ≡ contains l.needle (drop l.i l.s)
