use native.Mathlib.Omega.{arith}
use Rattle.markup.proofs.Nexts.{inside, next_end, next_bad, next_return, next_other}
use borrow.Author.Rules.{rules}
use Rattle.markup.proofs.points.next.Goals as goal

pub overflow_add-i : goal.overflow_add-i
overflow_add-i c = omega (arith, inside c.args.s.now c.args.i _ _ _ (omega arith) c.char_from.ensures c.in-Some-eq13-default.is)

pub overflow_add-result : goal.overflow_add-result
overflow_add-result c = omega (arith, inside c.args.s.now c.args.i _ _ _ (omega arith) c.char_from.ensures c.in-Some.is)

pub overflow_add-result-in-None : goal.overflow_add-result-in-None
overflow_add-result-in-None c = omega arith

pub returns-then-i-s : goal.returns-then-i-s
returns-then-i-s c = search (rules, next_end)

pub returns-in-Some-eq13-default : goal.returns-in-Some-eq13-default
returns-in-Some-eq13-default c = search (rules, next_return)

pub returns-in-Some : goal.returns-in-Some
returns-in-Some c = next_other _ _ _ (omega arith) c.char_from.ensures c.in-Some.c c.in-Some.n c.in-Some.is c.in-Some.c-test.1

pub returns-in-None : goal.returns-in-None
returns-in-None c = search (rules, next_bad)
