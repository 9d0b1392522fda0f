use Rattle.amount.proofs.Signs.{read64}
use Rattle.amount.specs.Walk.{ranged}
use borrow.Author.Tests.{lt-ltb, lt-leb, le-leb, le-ltb}
use Rattle.amount.proofs.amount.in_range.Goals as goal

pub returns-then-size-le9223372036854775808 : goal.returns-then-size-le9223372036854775808
unfolding ranged
returns-then-size-le9223372036854775808 c = simp (read64 c.negated.result c.negated.type_inv, ← c.negated.ensures, le-leb _ _ c.if-size-le9223372036854775808.true, c.if-negative.true)

pub returns-then-negative : goal.returns-then-negative
unfolding ranged
returns-then-negative c = simp (lt-leb _ _ c.if-size-le9223372036854775808.false, c.if-negative.true)

pub returns-then-size-lt9223372036854775808 : goal.returns-then-size-lt9223372036854775808
unfolding ranged
returns-then-size-lt9223372036854775808 c = simp (read64 c.to_i64.result c.to_i64.type_inv, ← c.to_i64.ensures, lt-ltb _ _ c.if-size-lt9223372036854775808.true, c.if-negative.false)

pub returns : goal.returns
unfolding ranged
returns c = simp (le-ltb _ _ c.if-size-lt9223372036854775808.false, c.if-negative.false)
