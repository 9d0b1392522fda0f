use Rattle.lines.proofs.Naming.{term_none, term_there}
use Rattle.lines.proofs.label.put_term_field.Goals as goal

pub returns-then-term-eq0 : goal.returns-then-term-eq0
returns-then-term-eq0 c = search term_none

pub returns : goal.returns
returns c = search term_there
