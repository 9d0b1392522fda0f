use Rattle.std.proofs.Common.{sym}
use Rattle.names.proofs.Puts.{put_none}
use Rattle.inputs.proofs.Numbers.{numbers_turn, numbers_end}
use Rattle.inputs.proofs.files.numbers_of.Goals as goal

pub loop-k-init : goal.loop-k-init
loop-k-init c = sym (put_none _ _)

pub loop-k-preserved : goal.loop-k-preserved
loop-k-preserved c = numbers_turn _ _ c.loop-k.k _ c.loop-k-test.true c.loop-k.invariant c.from_le_bytes.ensures c.put.ensures

pub returns : goal.returns
returns c = numbers_end _ _ _ c.as_chunks.ensures.front c.loop-k-test.false c.loop-k.invariant
