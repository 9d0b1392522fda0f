use mathlib.Core.Path.{◌∙◌}
use native.Mathlib.Omega.{arith}
use Rattle.text.proofs.Words.{words_differ, word_on, words_end}
use Rattle.text.proofs.word.same_long.Goals as goal

pub returns-then-word : goal.returns-then-word
returns-then-word c = search words_differ

pub returns-then-word-2 : goal.returns-then-word-2
returns-then-word-2 c = search words_differ

pub loop-i-preserved : goal.loop-i-preserved
loop-i-preserved c = (
  omega arith,
  c.loop-i.invariant.1 ∙
      word_on _ _ c.requires.0 (λ i. (c.shared_slice_known-1.given i).fits) (λ i. (c.shared_slice_known-2-1.given i).fits) c.loop-i.i
      (omega arith) c.word-in-loop-i.ensures c.word-in-loop-i-2.ensures c.if-word-2.false,
)

pub returns : goal.returns
returns c =
    words_end _ _ c.requires.0 (λ i. (c.shared_slice_known-1.given i).fits) (λ i. (c.shared_slice_known-2-1.given i).fits) _ _
    c.loop-i.invariant.1 c.loop-i-test.false (omega arith) c.word.ensures c.word-2.ensures c.if-word.false
