-- Texts that were read so far, with their states; and decimals in pieces, with what they end in.
use Rattle.std.specs.Prelude.{true, false, List, [], ◌∷◌, ℕ, ◌+◌, ◌^◌, ℤ, pos, negsuc}
use Prim.Native.String.{String}
use Rattle.text.specs.Answer.{Answer, read, says, silent}
use Rattle.amount.specs.declared.decimal.Walk.{Walk}
use Rattle.amount.specs.declared.decimal.Walk.TheVariants.{Nothing, Whole, Fraction, Malformed}

-- every kind of state; 22 digits, of which 19 are counted; sizes where they stop
unfoldable pub states : List (String × Walk)
states =
    ("", Nothing)
    ∷ ("-", Whole true 0 0)
    ∷ ("+120", Whole false 3 120)
    ∷ (".", Fraction false 0 0 0)
    ∷ ("-12.50", Fraction true 4 1250 2)
    ∷ ("1-", Malformed)
    ∷ ("1.2.", Malformed)
    ∷ ("0000000000000000000000", Whole false 19 0)
    ∷ ("9223372036854775808", Whole false 19 (2 ^ 63))
    ∷ ("9223372036854775809", Whole false 19 (2 ^ 63 + 1))
    ∷ ("9223372036854775810", Whole false 19 (2 ^ 63 + 1))
    ∷ []

-- amounts in pieces: cut at the sign, in both parts, beside the point and into nothing; then each refusal in its order
unfoldable pub amounts : List (List String × Answer ℤ)
amounts =
    ("-" ∷ "1" ∷ "2" ∷ "." ∷ "" ∷ "5" ∷ [], read (negsuc 1249))
    ∷ ("" ∷ "+.0" ∷ "7" ∷ [], read (pos 7))
    ∷ ("" ∷ "" ∷ [], silent)
    ∷ ("1e" ∷ "3.456" ∷ [], says 3)
    ∷ ("+" ∷ "." ∷ [], says 3)
    ∷ ("9999999999" ∷ "9999999999.1" ∷ "23" ∷ [], says 4)
    ∷ ("-92233720368547758." ∷ "09" ∷ [], says 5)
    ∷ []

-- percentages in pieces: 19.00; 18 digits, and one more; a sign alone
unfoldable pub percentages : List (List String × Answer (ℤ × ℕ))
percentages =
    ("1" ∷ "9.0" ∷ "0" ∷ [], read (pos 1900, 2))
    ∷ ("000000000" ∷ "00000000.1" ∷ [], read (pos 1, 1))
    ∷ ("000000000" ∷ "000000000.1" ∷ [], says 7)
    ∷ ("-" ∷ [], says 6)
    ∷ []
