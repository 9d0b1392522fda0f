use Rattle.std.specs.Prelude.{◌≡◌}
use Rattle.report.specs.declared.held.HeldRows.{HeldRows}
use Rattle.element.specs.LinkDoc.{doc_of, lent_text}
use Rattle.links.specs.Siblings.{siblings}
use Rattle.settlement.specs.Values.{Lent}
use Rattle.totals.specs.Reading.{currencies, taxes_of, Hears}
use Rattle.totals.proofs.Walks.{Walked}
use Rattle.totals.proofs.summands.read_children.Given as goal

abbrev pub invariant-loop-c : goal.invariant-loop-c
invariant-loop-c l =
    goal.iterator-loop-c.can_next l.c-iterator × goal.iterator-loop-c.is_finite l.c-iterator ×
    ((L : Lent) (h : HeldRows) → L.mode ≡ l.frame.mode → Hears L (doc_of l.doc) l.frame.n l.firsts → Walked L (doc_of l.doc) (lent_text l.doc) (currencies l.frame.read) l.frame.n h l.initial.entries l.initial.unmapped (siblings l.c-iterator) (taxes_of l.taxes) l.entries l.unmapped)
