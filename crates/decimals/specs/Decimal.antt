-- Numbers in decimal digits.
use Rattle.std.specs.Prelude.{cond, List, [], ◌∷◌, ◌++◌, ℕ, zero, suc, ◌+◌, ◌/◌, ◌%◌, ltb, ℤ, pos, negsuc}

-- the digits of n, at most so many
unfoldable pub spelled : ℕ → ℕ → List ℕ
spelled zero n = []
spelled (suc k) n = cond (ltb n 10) ((0x30 + n) ∷ []) (spelled k (n / 10) ++ ((0x30 + n % 10) ∷ []))

-- all digits of n, without a leading zero: a number has fewer than it counts
unfoldable pub decimal : ℕ → List ℕ
decimal n = spelled (suc n) n

-- a number below 0 has a minus sign before its digits
unfoldable pub signed : ℤ → List ℕ
signed (pos n) = decimal n
signed (negsuc n) = 0x2D ∷ decimal (suc n)

-- a number of a row where no number below 0 has a meaning: such a one counts as 0
unfoldable pub natural : ℤ → ℕ
natural (pos n) = n
natural (negsuc n) = 0
