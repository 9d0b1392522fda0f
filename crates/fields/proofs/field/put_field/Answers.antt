use Rattle.fields.proofs.Showing.{tab_shown}
use Rattle.fields.proofs.field.put_field.Goals as goal

pub returns : goal.returns
returns c = search tab_shown
