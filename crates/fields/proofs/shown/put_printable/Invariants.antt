use lib.ListN.{drop}
use Rattle.fields.specs.Line.{printable}
use Rattle.fields.proofs.Parts.{PutSome}
use Rattle.fields.proofs.shown.put_printable.Given as goal

abbrev pub invariant-loop-b : goal.invariant-loop-b
invariant-loop-b l = PutSome (printable l.s) l.initial.line l.line (printable (drop l.b-index l.s))
