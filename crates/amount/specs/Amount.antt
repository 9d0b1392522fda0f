-- An amount in hundredths, and its refusals in their order (document 01, `amount.rs`; EN 16931-1, 6.5.2).
use Rattle.std.specs.Prelude.{Bool, cond, ◌&&◌, List, [], ◌∷◌, ◌++◌, ℕ, ◌-◌, ◌^◌, leb, length, take, ℤ, pos, negsuc}
use Rattle.std.specs.Int.Signed.{le_z}
use Rattle.text.specs.Answer.{Answer, read, says, silent}
use Rattle.text.specs.Digits.{number}
use Rattle.characters.specs.Trim.{trim_of}
use Rattle.amount.specs.Decimal.{empty, negative, whole, fraction, decimal, signed}

-- the hundredths of a decimal of at most two decimals
unfoldable pub hundredths : List ℕ → ℤ
hundredths t = signed (negative t) (number 0 (whole t ++ take 2 (fraction t ++ 0x30 ∷ 0x30 ∷ [])))

-- -2^63 to 2^63 - 1
unfoldable pub in_range : ℤ → Bool
in_range z = le_z (negsuc (2 ^ 63 - 1)) z && le_z z (pos (2 ^ 63 - 1))

-- empty; 3 malformed; 4 over two decimals; 5 out of range; the amount
unfoldable pub amount_of : List ℕ → Answer ℤ
amount_of t =
    cond (empty t) silent
    (cond (decimal t)
    (cond (leb (length (fraction t)) 2)
    (cond (in_range (hundredths t)) (read (hundredths t)) (says 5))
    (says 4))
    (says 3))

-- the amount of a text, as the mode trims it
unfoldable pub parsed_amount : ℕ → List ℕ → Answer ℤ
parsed_amount mode s = amount_of (trim_of mode s)
