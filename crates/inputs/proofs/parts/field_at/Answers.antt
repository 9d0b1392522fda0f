use native.Mathlib.Omega.{arith}
use Rattle.inputs.proofs.Bytes.{field_inside, field_found}
use Rattle.inputs.proofs.parts.field_at.Goals as goal

pub overflow_add-end : goal.overflow_add-end
overflow_add-end c = omega (arith, field_inside c.args.s.now c.args.start c.rest.ensures c.length_of_word.ensures)

pub returns : goal.returns
returns c = search field_found
