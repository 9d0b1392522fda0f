use Rattle.tokens.proofs.Spellings.{Matched}
use Rattle.tokens.proofs.words.word_at.Given as goal

abbrev pub invariant-loop-b : goal.invariant-loop-b
invariant-loop-b l = Matched l.s l.w l.i l.j l.b-index
