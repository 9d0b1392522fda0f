use Rattle.amount.proofs.Meaning.{percentage_read}
use Rattle.amount.proofs.numeric.Percentage.parse_trimmed.Goals as goal

pub returns : goal.returns
returns c = search percentage_read
