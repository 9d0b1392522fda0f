use Rattle.std.proofs.Common.{◌≤◌}
use Rattle.cases.proofs.Lines.{Listing}
use Rattle.cases.proofs.listing.numbers.Given as goal

abbrev pub invariant-loop-b : goal.invariant-loop-b
invariant-loop-b l = (l.k ≤ l.b-index) × Listing l.s l.initial.out l.out l.k l.n l.b-index
