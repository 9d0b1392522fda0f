use mathlib.Core.Path.{refl}
use Rattle.steps.proofs.Stepping.{lanes, none_held, none_said}
use Rattle.steps.specs.Steps.{act_by, step_by}
use Rattle.settlement.specs.Kinds.{same_kind, home}
use Rattle.settlement.specs.Settlement.{own}
use Rattle.children.proofs.walk.unmapped_child.Goals as goal

pub returns : goal.returns
unfolding step_by act_by own home same_kind
returns c L p t b m h e =
    record {
      state = lanes refl refl refl refl refl refl refl refl refl refl refl refl refl refl refl;
      held = none_held refl h;
      said = none_said refl e;
      noted = rw (c.name.ensures, c.text.ensures) at c.note.ensures;
    }
