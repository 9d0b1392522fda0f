use Rattle.links.specs.Siblings.{siblings}
use Rattle.values.specs.Sites.{lent_of}
use Rattle.steps.specs.States.{state}
use Rattle.children.proofs.Reaching.{Reached}
use Rattle.children.proofs.walk.read_children.Given as goal

abbrev pub invariant-loop-c : goal.invariant-loop-c
invariant-loop-c l =
    goal.iterator-loop-c.can_next l.c-iterator × goal.iterator-loop-c.is_finite l.c-iterator ×
    Reached (lent_of l.lent) l.doc.table.records.now l.doc.table.text.now l.doc.links.now l.n (state l.initial.plain l.initial.tally l.initial.billing l.initial.totals) l.initial.held l.initial.entries l.initial.unmapped (siblings l.c-iterator) (state l.plain l.tally l.billing l.totals) l.held l.entries l.unmapped
