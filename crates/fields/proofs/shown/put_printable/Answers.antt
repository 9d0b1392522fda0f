use Rattle.fields.proofs.Parts.{some_none}
use Rattle.fields.proofs.Showing.{printable_turn, printable_end}
use Rattle.fields.proofs.shown.put_printable.Goals as goal

pub loop-b-init : goal.loop-b-init
loop-b-init c = some_none _ _

pub loop-b-preserved : goal.loop-b-preserved
loop-b-preserved c = search printable_turn

pub returns : goal.returns
returns c = search printable_end
