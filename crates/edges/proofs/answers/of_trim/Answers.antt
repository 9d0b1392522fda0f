use Rattle.std.proofs.Common.{arith, refl}
use Rattle.characters.proofs.Trims.{trimmed_in}
use Rattle.edges.proofs.Parts.{places_of}
use Rattle.edges.proofs.answers.of_trim.Goals as goal

pub overflow_cast-result : goal.overflow_cast-result
overflow_cast-result c = record { sfits = omega (arith, trimmed_in _ _ _ c.trim-t.ensures) }

pub overflow_cast-result-2 : goal.overflow_cast-result-2
overflow_cast-result-2 c = record { sfits = omega (arith, trimmed_in _ _ _ c.trim-t.ensures) }

pub returns : goal.returns
returns c = places_of _ _ _ _ c.trim-t.ensures (omega arith) refl
