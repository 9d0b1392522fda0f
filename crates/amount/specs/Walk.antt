-- The walk over a decimal, byte by byte, as the code makes it. `finish_run` and `rate_run` (proofs/Meaning.antt) join it to the definitions.
use Rattle.std.specs.Prelude.{Bool, true, false, cond, ℕ, ◌+◌, ◌*◌, ◌-◌, ◌^◌, min, ltb, leb, eqb}
use mathlib.Core.List.{List, foldl}
use Rattle.text.specs.Digits.{digit}
use Rattle.amount.specs.declared.decimal.Walk.{Walk}
use Rattle.amount.specs.declared.decimal.Walk.TheVariants.{Nothing, Whole, Fraction, Malformed}
use Rattle.amount.specs.declared.amount.AmountError.{AmountError}
use Rattle.amount.specs.declared.amount.InvoiceAmount.{InvoiceAmount}
use Rattle.amount.specs.declared.numeric.PercentageError.{PercentageError}
use Rattle.amount.specs.declared.numeric.Percentage.{Percentage}
use Rattle.amount.specs.Decimal.{signed}
use Rattle.std.specs.Prelude.{Option, None, Some, Result, Ok, Err}
use Rattle.amount.specs.declared.decimal.Decimal.{Decimal}

-- a size, exact up to 2^63 and 2^63 + 1 above
abbrev pub cap : ℕ → ℕ
cap n = min n (2 ^ 63 + 1)

-- a count, exact up to 18 and 19 above
abbrev pub sat : ℕ → ℕ
sat n = min n 19

-- a byte more of a whole part: sign, digits, size
unfoldable pub whole_step : Bool → ℕ → ℕ → ℕ → Walk
whole_step g k m b = cond (digit b) (Whole g (sat (k + 1)) (cap (10 * m + (b - 48)))) (cond (eqb b 0x2E) (Fraction g k m 0) Malformed)

-- a byte more of a fraction: sign, digits, size, decimals
unfoldable pub fraction_step : Bool → ℕ → ℕ → ℕ → ℕ → Walk
fraction_step g k m p b = cond (digit b) (Fraction g (sat (k + 1)) (cap (10 * m + (b - 48))) (sat (p + 1))) Malformed

-- the first byte
unfoldable pub start_step : ℕ → Walk
start_step b = cond (eqb b 0x2D) (Whole true 0 0) (cond (eqb b 0x2B) (Whole false 0 0) (whole_step false 0 0 b))

-- a byte more
abbrev pub step_of : Walk → ℕ → Walk
step_of Nothing b = start_step b
step_of (Whole g k m) b = whole_step g k m b
step_of (Fraction g k m p) b = fraction_step g k m p b
step_of Malformed b = Malformed

-- the decimal of a sign, digits, a size and decimals, if it has a digit
unfoldable pub with_digits : Bool → ℕ → ℕ → ℕ → Option Decimal
with_digits g k m p = cond (eqb k 0) None (Some (record { negative = g; digits = k; size = m; decimals = p }))

-- the decimal that was read, at the end of a walk
abbrev pub decimal_at : Walk → Option Decimal
decimal_at Nothing = None
decimal_at (Whole g k m) = with_digits g k m 0
decimal_at (Fraction g k m p) = with_digits g k m p
decimal_at Malformed = None

-- a walk over bytes, from a state
unfoldable pub run : Walk → List ℕ → Walk
run w s = foldl step_of w s

-- an amount of a size in hundredths, where it is in range
unfoldable pub ranged : Bool → ℕ → Result InvoiceAmount AmountError
ranged g m = cond g (cond (leb m (2 ^ 63)) (Ok (record { 0 = signed true m })) (Err AmountError.OutOfRange)) (cond (ltb m (2 ^ 63)) (Ok (record { 0 = signed false m })) (Err AmountError.OutOfRange))

-- a zero more
abbrev pub push : ℕ → ℕ
push m = cap (10 * m + (48 - 48))

-- a size with so many decimals, filled up to hundredths
unfoldable pub padded : Bool → ℕ → ℕ → Result InvoiceAmount AmountError
padded g m p = cond (ltb 2 p) (Err AmountError.TooManyDecimals) (cond (eqb p 2) (ranged g m) (cond (eqb p 1) (ranged g (push m)) (ranged g (push (push m)))))

-- a percentage of at most 18 digits: sign, digits, size, decimals
unfoldable pub rated : Bool → ℕ → ℕ → ℕ → Result Percentage PercentageError
rated g k m p =
    cond (ltb 18 k) (Err PercentageError.TooPrecise)
    (cond (ltb m 1000000000000000000) (Ok (record { unscaled = signed g m; scale = p })) (Err PercentageError.TooPrecise))

-- what is made of a decimal, which has a digit at least, or b
unfoldable pub counted : {A : Type 0} → A → ℕ → A → A
counted b k a = cond (eqb k 0) b a

-- the end of a walk: e of no bytes, b of no decimal, else made of sign, digits, size and decimals
abbrev pub end_of : {A : Type 0} → A → A → (Bool → ℕ → ℕ → ℕ → A) → Walk → A
end_of e b made Nothing = e
end_of e b made (Whole g k m) = counted b k (made g k m 0)
end_of e b made (Fraction g k m p) = counted b k (made g k m p)
end_of e b made Malformed = b

-- as an amount
abbrev pub finish_of : Walk → Result InvoiceAmount AmountError
finish_of w = end_of (Err AmountError.Empty) (Err AmountError.Malformed) (λ g k m p. padded g m p) w

-- and as a percentage
abbrev pub rate_of : Walk → Result Percentage PercentageError
rate_of w = end_of (Err PercentageError.Malformed) (Err PercentageError.Malformed) rated w
