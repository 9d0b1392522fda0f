use mathlib.Core.Path.{◌≡◌}
use mathlib.Core.List.{foldl, map}
use Rattle.links.specs.Firsts.{keep_one, keep_all}
use Rattle.links.specs.Siblings.{siblings}
use Rattle.links.proofs.firsts.first_children.Given as goal

abbrev pub invariant-loop-c : goal.invariant-loop-c
invariant-loop-c l =
    goal.iterator-loop-c.can_next l.c-iterator × goal.iterator-loop-c.is_finite l.c-iterator ×
    (keep_all l.table.records.now l.table.text.now l.links l.i (map (λ w. w.now) l.names) l.initial.firsts ≡ foldl (keep_one l.table.records.now l.table.text.now (map (λ w. w.now) l.names)) l.firsts (siblings l.c-iterator))
