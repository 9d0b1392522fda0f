use Rattle.characters.proofs.Characters.{one_at}
use Rattle.characters.proofs.utf8.char_at.Goals as goal

pub returns-then-a-lt128 : goal.returns-then-a-lt128
returns-then-a-lt128 c = search one_at
