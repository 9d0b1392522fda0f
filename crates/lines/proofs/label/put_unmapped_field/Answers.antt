use Rattle.lines.proofs.Naming.{unmapped_put, puts_row}
use Rattle.lines.proofs.label.put_unmapped_field.Goals as goal

pub returns : goal.returns
returns c = search (unmapped_put, puts_row)
