use Rattle.codes.specs.Rules.{bit, in_force}
use Rattle.codes.proofs.rules.is_in_force.Goals as goal

pub returns : goal.returns
unfolding in_force bit
returns c = simp c.bit_of.ensures
