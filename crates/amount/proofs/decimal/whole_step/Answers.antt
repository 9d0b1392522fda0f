use Rattle.std.proofs.Common.{rules, tests}
use Rattle.text.proofs.Bools.{passed}
use Rattle.amount.specs.Walk.{whole_step}
use Rattle.amount.proofs.decimal.whole_step.Goals as goal

pub push_digit-requires : goal.push_digit-requires
push_digit-requires c = search passed

pub returns-then-is_digit : goal.returns-then-is_digit
unfolding whole_step
returns-then-is_digit c = simp (c.push_digit.ensures, ← c.count_up.ensures, c.if-is_digit.true, ← c.is_digit.ensures)

pub returns-then-b-eq46 : goal.returns-then-b-eq46
unfolding whole_step
returns-then-b-eq46 c = search (tests, rules)

pub returns : goal.returns
unfolding whole_step
returns c = search (tests, rules)
