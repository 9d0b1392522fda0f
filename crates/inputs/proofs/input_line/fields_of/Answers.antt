use Rattle.inputs.proofs.Lines.{mode_unfit, rules_unfit, currency_unfit, identifier_unfit, all_fit}
use Rattle.inputs.proofs.input_line.fields_of.Goals as goal

pub returns-in_err-numeral_of : goal.returns-in_err-numeral_of
returns-in_err-numeral_of c = rw c.from_residual.ensures (mode_unfit _ _ _ _ _ c.bytes_at.ensures c.in_err-numeral_of.ensures)

pub returns-in_err-numeral_of-2 : goal.returns-in_err-numeral_of-2
returns-in_err-numeral_of-2 c =
    rw c.from_residual-in_err-numeral_of-2.ensures (rules_unfit _ _ _ _ _ c.bytes_at.ensures c.in_ok-numeral_of.ensures c.bytes_at-2.ensures c.in_err-numeral_of-2.ensures)

pub returns-in_err-name_at : goal.returns-in_err-name_at
returns-in_err-name_at c =
    rw c.from_residual-in_err-name_at.ensures (currency_unfit _ _ _ _ _ c.bytes_at.ensures c.in_ok-numeral_of.ensures c.bytes_at-2.ensures c.in_ok-numeral_of-2.ensures c.in_err-name_at.ensures)

pub returns-in_err-name_at-2 : goal.returns-in_err-name_at-2
returns-in_err-name_at-2 c =
    rw c.from_residual-in_err-name_at-2.ensures (identifier_unfit _ _ _ _ _ c.bytes_at.ensures c.in_ok-numeral_of.ensures c.bytes_at-2.ensures c.in_ok-numeral_of-2.ensures c.in_ok-name_at.ensures c.in_err-name_at-2.ensures)

pub returns : goal.returns
returns c =
    all_fit _ _ _ _ _ c.bytes_at.ensures c.in_ok-numeral_of.ensures c.bytes_at-2.ensures c.in_ok-numeral_of-2.ensures c.in_ok-name_at.ensures c.in_ok-name_at-2.ensures
