use native.Mathlib.Omega.{arith}
use Rattle.markup.proofs.Nexts.{past_line, past_one, past_none, feed_inside}
use borrow.Author.Rules.{rules}
use Rattle.markup.proofs.points.past_feed.Goals as goal

pub overflow_add-result : goal.overflow_add-result
overflow_add-result c =
    omega (arith, feed_inside c.args.s.now c.args.j c.in-Some-eq10-default.field-0-0 c.in-Some-eq10-default.n c.char_from.ensures c.in-Some-eq10-default.is c.in-Some-eq10-default.field-0-0-test)

pub returns-in-Some-eq10-default : goal.returns-in-Some-eq10-default
returns-in-Some-eq10-default c = search (rules, past_line)

pub returns-in_default : goal.returns-in_default
returns-in_default c = search (rules, past_one)

pub returns-in_default-2 : goal.returns-in_default-2
returns-in_default-2 c = search (rules, past_none)
