use Rattle.std.proofs.Common.{ℕ, sym}
use Rattle.std.proofs.lemmas.List.{length-replicate}
use Rattle.replay.proofs.input_buffer.Goals as goal

-- the law's level and type are written out, so that the two lengths are not computed
pub returns : goal.returns
returns c = sym (length-replicate {0} {A = ℕ} 524288 0)
