use Rattle.amount.proofs.Errors.{no_amount}
use Rattle.values.specs.Sites.{answered_at}
use Rattle.amounts.proofs.heard.parsed_or.Goals as goal

pub returns-in-Ok : goal.returns-in-Ok
unfolding answered_at
returns-in-Ok c = λ s. rw (← c.shown.ensures, ← c.parse_trimmed.ensures, c.in-Ok.is)

pub returns-in-Err : goal.returns-in-Err
unfolding answered_at
returns-in-Err c = λ s. rw (← c.shown.ensures, ← c.parse_trimmed.ensures, c.in-Err.is, no_amount _)
