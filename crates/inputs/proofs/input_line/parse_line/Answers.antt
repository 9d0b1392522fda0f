use native.Mathlib.Omega.{arith}
use Rattle.inputs.proofs.Lines.{long_line, spaced_inside, one_field, two_fields, three_fields, four_fields, five_fields}
use Rattle.inputs.proofs.input_line.parse_line.Goals as goal

pub returns-then-input-gt-LONGEST : goal.returns-then-input-gt-LONGEST
returns-then-input-gt-LONGEST c = search long_line

pub returns-in_err-mode : goal.returns-in_err-mode
returns-in_err-mode c = rw c.from_residual.ensures (one_field _ c.if-input-gt-LONGEST.false c.in_err-mode.ensures)

pub overflow_add-mode : goal.overflow_add-mode
overflow_add-mode c = omega (arith, spaced_inside _ _ c.in_ok-mode.ensures)

pub returns-in_err-rules : goal.returns-in_err-rules
returns-in_err-rules c =
    rw c.from_residual-in_err-rules.ensures (two_fields _ c.if-input-gt-LONGEST.false c.in_ok-mode.ensures c.in_err-rules.ensures)

pub overflow_add-rules : goal.overflow_add-rules
overflow_add-rules c = omega (arith, spaced_inside _ _ c.in_ok-rules.ensures)

pub returns-in_err-currency : goal.returns-in_err-currency
returns-in_err-currency c =
    rw c.from_residual-in_err-currency.ensures (three_fields _ c.if-input-gt-LONGEST.false c.in_ok-mode.ensures c.in_ok-rules.ensures c.in_err-currency.ensures)

pub overflow_add-currency : goal.overflow_add-currency
overflow_add-currency c = omega (arith, spaced_inside _ _ c.in_ok-currency.ensures)

pub returns-then-not-is_closing : goal.returns-then-not-is_closing
returns-then-not-is_closing c =
    five_fields _ c.if-input-gt-LONGEST.false c.in_ok-mode.ensures c.in_ok-rules.ensures c.in_ok-currency.ensures c.field_at-identifier.ensures c.is_closing.ensures c.if-not-is_closing.true

pub returns : goal.returns
returns c =
    four_fields _ c.if-input-gt-LONGEST.false c.in_ok-mode.ensures c.in_ok-rules.ensures c.in_ok-currency.ensures c.field_at-identifier.ensures c.is_closing.ensures c.if-not-is_closing.false c.fields_of.ensures
