use native.Mathlib.Omega.{arith}
use borrow.Author.Rules.{rules}
use Rattle.tokens.proofs.Turns.{spans_none, spans_more, spans_end, fits}
use Rattle.tokens.proofs.names.name_end.Goals as goal

pub loop-j-init : goal.loop-j-init
loop-j-init c = search (rules, spans_none)

pub loop-j-smaller : goal.loop-j-smaller
loop-j-smaller c = omega (arith, fits _ _ _ c.loop-j.invariant.1 c.loop-j-test.true, c.loop-j-test.true)

pub loop-j-preserved : goal.loop-j-preserved
loop-j-preserved c = (spans_more _ _ _ _ c.loop-j.invariant.0 c.loop-j.invariant.1 c.loop-j-test.true, c.pass_name-k-in-loop-j.ensures)

pub returns : goal.returns
returns c = spans_end _ _ _ _ c.loop-j.invariant.0 c.loop-j.invariant.1 c.loop-j-test.false
