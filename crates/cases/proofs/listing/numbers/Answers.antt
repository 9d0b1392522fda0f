use Rattle.std.proofs.Common.{arith}
use Rattle.cases.proofs.Lines.{listing_digit, listing_next, listing_end}
use Rattle.cases.proofs.listing.numbers.Goals as goal
use Rattle.cases.proofs.listing.numbers.Goals.{then-is_digit, else-is_digit}

pub loop-b-preserved : goal.loop-b-preserved
loop-b-preserved c =
    elim c.if-is_digit.branch [
      | then-is_digit w ↦ rw (w.out-is, w.k-is, w.n-is) (omega arith, listing_digit _ _ _ _ _ _ c.loop-b.invariant.1 c.loop-b-test.true _ c.is_digit.ensures w.if-is_digit.true _ w.grow-n.ensures)
      | else-is_digit w ↦ rw (w.out-is, w.k-is, w.n-is) (omega arith, listing_next _ _ _ _ _ _ c.loop-b.invariant.1 c.loop-b-test.true _ c.is_digit.ensures w.if-is_digit.false _ w.put.ensures)
    ]

pub returns : goal.returns
returns c = listing_end _ _ _ _ _ _ c.loop-b.invariant.1 c.loop-b-test.false _ c.put-2.ensures
