-- Dates CCYYMMDD (UN/CEFACT code list 2379, code 102) in the Gregorian calendar (ISO 8601).
use Rattle.std.specs.Prelude.{Bool, cond, not, ◌&&◌, ◌||◌, List, ℕ, ◌/◌, ◌%◌, eqb, length, take, drop}
use Rattle.text.specs.Answer.{Answer, read, says}
use Rattle.text.specs.Digits.{all_digits, number}
use Rattle.text.specs.Range.{within}
use Rattle.characters.specs.Trim.{trim_of}

-- a leap year: divisible by four, and a century year only where it is divisible by 400 (ISO 8601, the Gregorian calendar)
unfoldable pub leap : ℕ → Bool
leap y = eqb (y % 4) 0 && (not (eqb (y % 100) 0) || eqb (y % 400) 0)

-- the number of days of a month (ISO 8601, the table of calendar months): February 28, or 29 in a leap year
unfoldable pub days : ℕ → ℕ → ℕ
days y m = cond (eqb m 2) (cond (leap y) 29 28) (cond (eqb m 4 || eqb m 6 || eqb m 9 || eqb m 11) 30 31)

-- a month 01 to 12 and a day that the month has (ISO 8601, calendar date)
unfoldable pub is_day : ℕ → ℕ → ℕ → Bool
is_day y m d = within m 1 12 && within d 1 (days y m)

-- CCYY, the year 0000 to 9999
unfoldable pub year : List ℕ → ℕ
year t = number 0 (take 4 t)

-- MM, the month
unfoldable pub month : List ℕ → ℕ
month t = number 0 (take 2 (drop 4 t))

-- DD, the day of the month
unfoldable pub day : List ℕ → ℕ
day t = number 0 (drop 6 t)

-- CCYYMMDD, eight digits (code 102)
unfoldable pub eight_digits : List ℕ → Bool
eight_digits t = eqb (length t) 8 && all_digits t

-- the date that a text writes, as the number CCYYMMDD; 12 not CCYYMMDD; 13 no such day (document 01, Messages)
unfoldable pub date_of : List ℕ → Answer ℕ
date_of t = cond (eight_digits t) (cond (is_day (year t) (month t) (day t)) (read (number 0 t)) (says 13)) (says 12)

-- the date whose number CCYYMMDD is n
unfoldable pub numbered : ℕ → Answer ℕ
numbered n = cond (is_day (n / 10000) (n / 100 % 100) (n % 100)) (read n) (says 13)

-- the date of a text that is trimmed first (document 01, the mode)
unfoldable pub parsed_date : ℕ → List ℕ → Answer ℕ
parsed_date mode s = date_of (trim_of mode s)
