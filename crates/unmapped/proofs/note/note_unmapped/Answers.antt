use native.Mathlib.Omega.{arith}
use borrow.Author.Rules.{rules}
use Rattle.unmapped.proofs.Halving.{sought_within}
use Rattle.unmapped.proofs.Cases.{noting_full, noting_taken, noting_free}
use Rattle.unmapped.proofs.note.note_unmapped.Goals as goal

pub returns-then-list-count : goal.returns-then-list-count
returns-then-list-count c = noting_full _ _ _ _ c.if-list-count.true

pub insert_row-requires : goal.insert_row-requires
insert_row-requires c = let w = sought_within _ _ _ _ c.seek.ensures c.in-Some.is in (omega arith, search rules)

pub returns-in-None : goal.returns-in-None
returns-in-None c = noting_taken _ _ _ _ c.if-list-count.false c.seek.ensures c.in-None.is

pub returns-in-Some : goal.returns-in-Some
returns-in-Some c =
    noting_free _ _ _ _ c.if-list-count.false c.seek.ensures c.in-Some.is c.insert_row.ensures
