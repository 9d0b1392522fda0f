use native.Mathlib.Omega.{arith}
use Rattle.unmapped.proofs.Halving.{seek_start, seek_before, seek_there, seek_behind, seek_end}
use Rattle.unmapped.proofs.search.seek.Goals as goal

pub loop-lo-init : goal.loop-lo-init
loop-lo-init c = (omega arith, omega arith, seek_start _ _ _ _)

pub loop-lo-preserved-in-Less : goal.loop-lo-preserved-in-Less
loop-lo-preserved-in-Less c = (omega arith, omega arith, search seek_before)

pub returns-in-Equal : goal.returns-in-Equal
returns-in-Equal c = search seek_there

pub loop-lo-preserved : goal.loop-lo-preserved
loop-lo-preserved c = (omega arith, omega arith, search seek_behind)

pub returns : goal.returns
returns c = search seek_end
