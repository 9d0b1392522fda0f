-- What the answers of the code say, in document 01's numbers.
use Rattle.std.specs.Prelude.{ℕ, ℤ}
use Rattle.text.specs.Answer.{Answer, read, says, silent}
use Rattle.amount.specs.declared.amount.AmountError.{AmountError}
use Rattle.amount.specs.declared.amount.InvoiceAmount.{InvoiceAmount}
use Rattle.amount.specs.declared.numeric.PercentageError.{PercentageError}
use Rattle.amount.specs.declared.numeric.Percentage.{Percentage}
use Rattle.std.specs.Prelude.{Result, Ok, Err}

-- messages 3, 4 and 5; an empty amount has neither value nor message
abbrev pub amount_answer : Result InvoiceAmount AmountError → Answer ℤ
amount_answer (Ok a) = read a.0
amount_answer (Err AmountError.Empty) = silent
amount_answer (Err AmountError.Malformed) = says 3
amount_answer (Err AmountError.TooManyDecimals) = says 4
amount_answer (Err AmountError.OutOfRange) = says 5

-- messages 6 and 7; a percentage is its unscaled number and its scale
abbrev pub percentage_answer : Result Percentage PercentageError → Answer (ℤ × ℕ)
percentage_answer (Ok p) = read (p.unscaled, p.scale)
percentage_answer (Err PercentageError.Malformed) = says 6
percentage_answer (Err PercentageError.TooPrecise) = says 7
