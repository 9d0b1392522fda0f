use mathlib.Core.Path.{◌∙◌}
use Rattle.characters.proofs.Encoding.{utf8_std}
use Rattle.characters.proofs.Steps.{stepwise_utf8}
use Rattle.characters.proofs.utf8.is_utf8.Goals as goal

pub returns-clause-utf8 : goal.returns-clause-utf8
returns-clause-utf8 c = c.is_ok.ensures.value ∙ utf8_std _ c.args.s.now c.from_utf8.result c.from_utf8.ensures.cases

pub returns-clause-steps : goal.returns-clause-steps
returns-clause-steps c = returns-clause-utf8 c ∙ stepwise_utf8 c.args.s.now
