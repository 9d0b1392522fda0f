use Rattle.codes.proofs.Containing.{stands}
use Rattle.codes.proofs.conformant.begins_at.Goals as goal

pub returns : goal.returns
returns c = search stands
