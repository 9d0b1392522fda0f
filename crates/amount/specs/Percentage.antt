-- A percentage: unscaled number and scale (document 01, `numeric.rs`; EN 16931-1, 6.5.5).
use Rattle.std.specs.Prelude.{cond, List, ◌++◌, ℕ, leb, length, ℤ}
use Rattle.text.specs.Answer.{Answer, read, says}
use Rattle.text.specs.Digits.{number}
use Rattle.characters.specs.Trim.{trim_of}
use Rattle.amount.specs.Decimal.{negative, whole, fraction, decimal, signed}

-- 6 no xs:decimal, empty too; 7 over 18 digits, counting zeros; the digits without the period, and how many stood behind it
unfoldable pub percentage_of : List ℕ → Answer (ℤ × ℕ)
percentage_of t =
    cond (decimal t)
    (cond (leb (length (whole t ++ fraction t)) 18)
    (read (signed (negative t) (number 0 (whole t ++ fraction t)), length (fraction t)))
    (says 7))
    (says 6)

-- the percentage of a text, as the mode trims it
unfoldable pub parsed_percentage : ℕ → List ℕ → Answer (ℤ × ℕ)
parsed_percentage mode s = percentage_of (trim_of mode s)
