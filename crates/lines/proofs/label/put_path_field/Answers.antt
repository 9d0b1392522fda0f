use Rattle.lines.proofs.Naming.{path_put, puts_row}
use Rattle.lines.proofs.label.put_path_field.Goals as goal

pub returns : goal.returns
returns c = search (path_put, puts_row)
