use mathlib.Core.Path.{refl}
use Rattle.codes.proofs.Containing.{contains_here, contains_on, contains_end}
use Rattle.codes.proofs.conformant.contains.Goals as goal

pub loop-i-init : goal.loop-i-init
loop-i-init c = refl

pub returns-then-begins_at : goal.returns-then-begins_at
returns-then-begins_at c = search contains_here

pub loop-i-preserved : goal.loop-i-preserved
loop-i-preserved c = search contains_on

pub returns : goal.returns
returns c = search contains_end
