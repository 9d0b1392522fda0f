use mathlib.Core.Path.{refl}
use Rattle.tokens.proofs.Spellings.{matched_none, matched_more, matched_off, matched_end}
use Rattle.tokens.proofs.words.word_at.Goals as goal

pub loop-b-init : goal.loop-b-init
loop-b-init c = matched_none _ _ _

pub returns-then-x-b : goal.returns-then-x-b
returns-then-x-b c = matched_off _ _ _ _ _ c.loop-b.invariant c.loop-b-test.true _ c.next-x.ensures _ refl c.if-x-b.true

pub loop-b-preserved : goal.loop-b-preserved
loop-b-preserved c = matched_more _ _ _ _ _ c.loop-b.invariant c.loop-b-test.true _ c.next-x.ensures _ refl c.if-x-b.false

pub returns : goal.returns
returns c = matched_end _ _ _ _ _ c.loop-b.invariant c.loop-b-test.false
