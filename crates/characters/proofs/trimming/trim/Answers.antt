use Rattle.characters.proofs.Trims.{trimmed_whole}
use Rattle.characters.proofs.trimming.trim.Goals as goal

pub returns-then-is_graphic-2 : goal.returns-then-is_graphic-2
returns-then-is_graphic-2 c = search trimmed_whole
