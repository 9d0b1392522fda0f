use mathlib.Core.Path.{◌≡◌}
use lib.ListN.{length}
use Rattle.table.specs.Table.{records}
use Rattle.links.specs.Links.{link_below}
use Rattle.links.proofs.links.link_each.Given as goal

abbrev pub invariant-loop-j : goal.invariant-loop-j
invariant-loop-j l = (link_below l.table.records.now (records l.table.records.now) l.initial.links ≡ link_below l.table.records.now l.j l.links) × (length l.links ≡ length l.initial.links)
