use mathlib.Core.Path.{refl}
use Rattle.unmapped.proofs.Notings.{notings_one}
use Rattle.unmapped.proofs.note.UnmappedRows.note.Goals as goal

pub returns : goal.returns
returns c = record { same = refl; rows = notings_one _ _ _ _ c.note_unmapped-self.ensures }
