use Rattle.text.proofs.Bools.{passed}
use Rattle.amount.specs.Walk.{fraction_step}
use Rattle.amount.proofs.decimal.fraction_step.Goals as goal

pub push_digit-requires : goal.push_digit-requires
push_digit-requires c = search passed

pub returns-then-is_digit : goal.returns-then-is_digit
unfolding fraction_step
returns-then-is_digit c = simp (c.count_up-then-is_digit.ensures, ← c.push_digit.ensures, ← c.count_up.ensures, c.if-is_digit.true, ← c.is_digit.ensures)

pub returns : goal.returns
unfolding fraction_step
returns c = simp (c.if-is_digit.false, ← c.is_digit.ensures)
