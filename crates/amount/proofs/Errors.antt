-- An error has no value.
use mathlib.Core.Path.{◌≡◌, refl}
use mathlib.Core.Option.{none}
use Rattle.std.specs.Prelude.{Err}
use Rattle.amount.specs.declared.amount.AmountError as Amounts
use Rattle.amount.specs.declared.amount.AmountError.TheVariants.{Empty, Malformed, TooManyDecimals, OutOfRange}
use Rattle.amount.specs.declared.numeric.PercentageError as Percentages
use Rattle.amount.specs.declared.numeric.PercentageError.TheVariants as PercentageError
use Rattle.amount.specs.Answers.{amount_answer, percentage_answer}

pub no_amount : (e : Amounts.AmountError) → (amount_answer (Err e)).value ≡ none
no_amount Empty = refl
no_amount Malformed = refl
no_amount TooManyDecimals = refl
no_amount OutOfRange = refl

pub no_percentage : (e : Percentages.PercentageError) → (percentage_answer (Err e)).value ≡ none
no_percentage PercentageError.Malformed = refl
no_percentage PercentageError.TooPrecise = refl
