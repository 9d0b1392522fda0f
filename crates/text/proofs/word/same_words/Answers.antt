use Rattle.text.proofs.Orders.{equal_lengths}
use Rattle.text.proofs.word.same_words.Goals as goal

pub returns-then-a-b : goal.returns-then-a-b
returns-then-a-b c = equal_lengths _ _ c.if-a-b.true
