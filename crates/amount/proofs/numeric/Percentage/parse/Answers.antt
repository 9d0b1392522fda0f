use Rattle.amount.proofs.Meaning.{percentage_parsed}
use Rattle.amount.proofs.numeric.Percentage.parse.Goals as goal

pub returns : goal.returns
returns c = search percentage_parsed
