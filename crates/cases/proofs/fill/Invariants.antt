use Rattle.cases.specs.Symbols.{symbols}
use Rattle.cases.proofs.Symbols.{Filling}
use Rattle.cases.proofs.fill.Given as goal

abbrev pub invariant-loop-x : goal.invariant-loop-x
invariant-loop-x l = Filling l.hole l.s l.initial.out l.out l.n (symbols 0 l.x-iterator.0.now)
