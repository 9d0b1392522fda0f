use Rattle.std.proofs.Common.{◌≡◌, ◌≤◌}
use Rattle.cases.specs.Symbols.{holes_of, symbols}
use Rattle.cases.proofs.Symbols.{holes_left}
use Rattle.cases.proofs.holes.Given as goal

abbrev pub invariant-loop-x : goal.invariant-loop-x
invariant-loop-x l = (l.n ≤ 2) × (holes_of l.s ≡ holes_left l.n (symbols 0 l.x-iterator.0.now))
