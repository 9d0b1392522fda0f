use Rattle.std.proofs.Common.{arith, refl}
use Rattle.edges.proofs.Parts.{part-numbers}
use Rattle.edges.proofs.answers.of_part.Goals as goal

pub returns : goal.returns
returns c = part-numbers _ _ _ _ _ _ c.part-p.ensures (omega arith) c.first_byte.ensures c.first_byte.type_inv refl
