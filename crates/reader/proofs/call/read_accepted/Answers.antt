use Rattle.reader.proofs.Rooms.{cramped_is}
use Rattle.reader.proofs.Settling.{refused_is, cramped_answered, roomy_answered}
use Rattle.reader.proofs.call.read_accepted.Goals as goal

pub returns-then-is_cramped : goal.returns-then-is_cramped
returns-then-is_cramped c = cramped_answered _ _ _ (search cramped_is) refused_is _ _ _

pub link_and_read-requires : goal.link_and_read-requires
link_and_read-requires c = (c.requires, search cramped_is)

pub returns : goal.returns
returns c = roomy_answered _ _ _ (search cramped_is) (rw c.is_conformant.ensures at c.link_and_read.ensures)
