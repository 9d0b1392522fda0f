use mathlib.Core.Path.{sym, ◌∙◌}
use Rattle.amount.specs.Walk.{padded}
use Rattle.amount.proofs.Walks.{end_some, end_none}
use Rattle.amount.proofs.amount.finish.Goals as goal

pub returns-in-None : goal.returns-in-None
returns-in-None c = end_none _ _ (λ g k m p. padded g m p) _ (λ e. absurd (c.in_default.not-Nothing e)) (sym c.decimal.ensures ∙ c.in-None.is)

pub returns-in-Some : goal.returns-in-Some
returns-in-Some c = c.pad.ensures ∙ end_some _ _ (λ g k m p. padded g m p) _ _ (sym c.decimal.ensures ∙ c.in-Some.is)
