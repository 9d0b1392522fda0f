use Rattle.edges.proofs.Backs.{answer_back}
use Rattle.edges.proofs.answers.answer_at.Goals as goal

pub returns : goal.returns
returns c = answer_back c.args.leaf _ _ _ _ _ _ _ _ c.fill-many.ensures c.part.ensures c.answer.ensures
