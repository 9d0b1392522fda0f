use mathlib.Core.Path.{refl, sym, ◌∙◌}
use Rattle.amount.specs.Walk.{rated}
use Rattle.amount.proofs.Walks.{end_some, end_none}
use Rattle.amount.proofs.numeric.finish.Goals as goal

pub returns-in-None : goal.returns-in-None
returns-in-None c = end_none _ _ rated _ (λ e. refl) (sym c.decimal.ensures ∙ c.in-None.is)

pub returns-in-Some : goal.returns-in-Some
returns-in-Some c = c.rated.ensures ∙ end_some _ _ rated _ _ (sym c.decimal.ensures ∙ c.in-Some.is)
