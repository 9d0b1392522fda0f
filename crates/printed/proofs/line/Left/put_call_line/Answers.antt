use Rattle.printed.proofs.Dispatch.{line_read, line_refused, line_past}
use Rattle.printed.proofs.line.Left.put_call_line.Goals as goal

pub returns-then-not-is_refused : goal.returns-then-not-is_refused
returns-then-not-is_refused c = search line_read

pub returns-then-k-lt1 : goal.returns-then-k-lt1
returns-then-k-lt1 c = search line_refused

pub returns-else-k-lt1 : goal.returns-else-k-lt1
returns-else-k-lt1 c = search line_past
