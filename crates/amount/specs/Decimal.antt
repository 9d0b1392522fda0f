-- xs:decimal (XML Schema part 2, 3.2.3): its parts, its grammar (\+|-)?([0-9]+(\.[0-9]*)?|\.[0-9]+), and a sign with a size.
use Rattle.std.specs.Prelude.{Bool, true, false, cond, ◌&&◌, ◌||◌, not, List, [], ◌∷◌, ◌++◌, ℕ, eqb, ℤ, pos, neg_ℤ}
use Rattle.text.specs.Digits.{digit, all_digits}

-- no bytes
abbrev pub empty : List ℕ → Bool
empty [] = true
empty (b ∷ s) = false

-- an optional leading sign, - or + (3.2.3.1)
unfoldable pub negative : List ℕ → Bool
negative [] = false
negative (b ∷ s) = eqb b 0x2D

-- what follows the sign
unfoldable pub unsigned : List ℕ → List ℕ
unsigned [] = []
unsigned (b ∷ s) = cond (eqb b 0x2D || eqb b 0x2B) s (b ∷ s)

-- the digits at the front
unfoldable pub digits_of : List ℕ → List ℕ
digits_of [] = []
digits_of (b ∷ s) = cond (digit b) (b ∷ digits_of s) []

-- what follows them
unfoldable pub past_digits : List ℕ → List ℕ
past_digits [] = []
past_digits (b ∷ s) = cond (digit b) (past_digits s) (b ∷ s)

-- nothing, or a period
unfoldable pub pointed : List ℕ → Bool
pointed [] = true
pointed (b ∷ s) = eqb b 0x2E

-- what follows the period
unfoldable pub past_point : List ℕ → List ℕ
past_point [] = []
past_point (b ∷ s) = s

-- the digits before the period
unfoldable pub whole : List ℕ → List ℕ
whole t = digits_of (unsigned t)

-- what stands after the period
unfoldable pub fraction : List ℕ → List ℕ
fraction t = past_point (past_digits (unsigned t))

-- digits separated by a period as a decimal indicator: one optional sign, digits, at most one period, at least one digit (3.2.3.1; document 01, `numeric.rs`)
unfoldable pub decimal : List ℕ → Bool
decimal t = pointed (past_digits (unsigned t)) && all_digits (fraction t) && not (empty (whole t ++ fraction t))

-- a size, below zero where the sign is true
unfoldable pub signed : Bool → ℕ → ℤ
signed g n = cond g (neg_ℤ (pos n)) (pos n)
