use Rattle.fields.proofs.Parts.{some_none}
use Rattle.fields.proofs.Rows.{fields_turn, fields-end}
use Rattle.fields.proofs.field.put_fields.Goals as goal

pub loop-column-init : goal.loop-column-init
loop-column-init c = some_none _ _

pub loop-column-preserved : goal.loop-column-preserved
loop-column-preserved c =
    let e = c.numbers_from-rest-in-loop-column.ensures in
    fields_turn _ _ _ _ _ c.loop-column-test.true c.loop-column.invariant c.put_field.ensures (rw c.width.ensures at e)

pub returns : goal.returns
returns c = let p = fields-end _ _ _ _ c.loop-column-test.false c.loop-column.invariant in rw c.numbers_from-rest.ensures at p
