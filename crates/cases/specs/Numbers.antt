-- Numbers in a line, parted by single spaces.
use Rattle.std.specs.Prelude.{◌≡◌, cond, List, [], ◌∷◌, ℕ, ◌+◌, ◌*◌, ◌-◌, min, length}
use Rattle.text.specs.Digits.{digit}
use Rattle.names.specs.Put.{put}

-- a number with one digit more, which stops at 2^32 - 1
abbrev pub grown : ℕ → ℕ → ℕ
grown n b = min (10 * n + (b - 48)) 4294967295

-- the numbers of a line of which the first so far is n: a byte that is no digit ends it
unfoldable pub numbers_from : ℕ → List ℕ → List ℕ
numbers_from n [] = n ∷ []
numbers_from n (b ∷ s) = cond (digit b) (numbers_from (grown n b) s) (n ∷ numbers_from 0 s)

-- the numbers of a line were put at the front of l, which gives l', and r is their number
pub record Listed (s l l' : List ℕ) (r : ℕ) : Type 0 where
  pub now : l' ≡ put l 0 (numbers_from 0 s)
  pub many : r ≡ length (numbers_from 0 s)
