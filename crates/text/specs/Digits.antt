-- Decimal digits, and the number that they write.
use Rattle.std.specs.Prelude.{Bool, true, cond, ◌&&◌, List, [], ◌∷◌, ℕ, ◌+◌, ◌*◌, ◌-◌, leb, length}
use Rattle.text.specs.Range.{within}
use Rattle.std.specs.Prelude.{Option, None, Some}

-- #x30-#x39 (XML Schema part 2, 3.2.3.1)
unfoldable pub digit : ℕ → Bool
digit b = within b 0x30 0x39

-- nothing but digits
unfoldable pub all_digits : List ℕ → Bool
all_digits [] = true
all_digits (b ∷ s) = digit b && all_digits s

-- the number that digits write after n, base ten
unfoldable pub number : ℕ → List ℕ → ℕ
number n [] = n
number n (b ∷ s) = number (10 * n + (b - 0x30)) s

-- the number of 32 bits that digits write after n
unfoldable pub numeral_from : ℕ → List ℕ → Option ℕ
numeral_from n s = cond (all_digits s && leb (number n s) 4294967295) (Some (number n s)) None

-- the number of 32 bits that one digit to `most` digits write
unfoldable pub numeral_of : ℕ → List ℕ → Option ℕ
numeral_of most s = cond (within (length s) 1 most) (numeral_from 0 s) None
