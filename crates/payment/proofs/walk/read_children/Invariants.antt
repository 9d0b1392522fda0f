use Rattle.element.specs.LinkDoc.{doc_of, lent_text}
use Rattle.links.specs.Siblings.{siblings}
use Rattle.payment.proofs.Reaching.{Reached}
use Rattle.payment.proofs.walk.read_children.Given as goal

abbrev pub invariant-loop-c : goal.invariant-loop-c
invariant-loop-c l =
    goal.iterator-loop-c.can_next l.c-iterator × goal.iterator-loop-c.is_finite l.c-iterator ×
    Reached (doc_of l.doc) (lent_text l.doc) ((doc_of l.doc).kids l.n) l.initial.walk l.initial.held l.initial.entries l.initial.unmapped (siblings l.c-iterator) l.walk l.held l.entries l.unmapped
