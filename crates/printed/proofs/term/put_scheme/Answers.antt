use Rattle.printed.proofs.Putting.{scheme_not, scheme_absent, scheme_put}
use Rattle.printed.proofs.term.put_scheme.Goals as goal

pub returns-then-not-is_identifier : goal.returns-then-not-is_identifier
returns-then-not-is_identifier c = search scheme_not

pub returns-then-not-is_shown : goal.returns-then-not-is_shown
returns-then-not-is_shown c = search scheme_absent

pub returns : goal.returns
returns c = search scheme_put
