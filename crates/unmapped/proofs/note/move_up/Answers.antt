use mathlib.Core.Path.{◌∙◌}
use Rattle.unmapped.proofs.Moves.{moved}
use Rattle.unmapped.proofs.note.move_up.Goals as goal

pub returns : goal.returns
returns c = c.copy_within.ensures.after ∙ moved c.args.list.now c.args.at c.args.end c.requires.0 c.requires.1
