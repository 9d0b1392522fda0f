use Rattle.amount.proofs.Signs.{neg_read, neg_zero}
use Rattle.amount.proofs.signed.negated.Goals as goal

pub returns-then-m-eq0 : goal.returns-then-m-eq0
returns-then-m-eq0 c = search neg_zero

pub returns : goal.returns
returns c = neg_read _ c.requires c.if-m-eq0.false c.below_zero.ensures
