use Rattle.printed.proofs.Putting.{line_put}
use Rattle.printed.proofs.row.put_row_line.Goals as goal

pub returns : goal.returns
returns c = search line_put
