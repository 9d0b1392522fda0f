use Rattle.date.proofs.Dates.{parsed_trimmed}
use Rattle.date.proofs.parse.Goals as goal

pub returns : goal.returns
returns c = search parsed_trimmed
