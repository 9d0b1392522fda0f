use Rattle.rulzhamm.proofs.Rows.{called, small}
use Rattle.rulzhamm.proofs.call.rulzhamm_read.Goals as goal

pub put_answer-requires : goal.put_answer-requires
put_answer-requires c = small _ _ _ _ c.read-read.ensures

pub returns : goal.returns
returns c = called c.read-read.ensures c.put_answer.ensures
