use Rattle.lines.proofs.Naming.{term_put, puts_row}
use Rattle.lines.proofs.label.put_term.Goals as goal

pub returns : goal.returns
returns c = search (term_put, puts_row)
