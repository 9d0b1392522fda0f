use mathlib.Core.Path.{refl}
use Rattle.settlement.specs.Values.{entry}
use Rattle.values.proofs.Telling.{said_one}
use Rattle.values.proofs.saying.Entries.say.Goals as goal

pub returns : goal.returns
unfolding entry
returns c = said_one refl (rw c.row.ensures at c.put_row-self.ensures)
