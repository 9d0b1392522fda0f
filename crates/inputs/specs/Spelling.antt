-- How input lines and record files are spelled: the definitions turned round, for the laws.
use Rattle.std.specs.Prelude.{◌≡◌, Bool, true, not, ◌&&◌, ◌||◌, List, [], ◌∷◌, ◌++◌, ◌⊎◌, ℕ, ◌/◌, ◌%◌, ◌^◌, ◌≤◌, ltb, eqb, length}
use Rattle.inputs.specs.Line.{numeral, filled, longest}

-- a space or a line feed
unfoldable pub mark : ℕ → Bool
mark b = eqb b 0x20 || eqb b 0x0A

-- bytes among which is neither
unfoldable pub plain : List ℕ → Bool
plain [] = true
plain (b ∷ s) = not (mark b) && plain s

unfoldable pub all_plain : List (List ℕ) → Bool
all_plain [] = true
all_plain (f ∷ fs) = plain f && all_plain fs

-- fields with a space between each two
unfoldable pub joined : List (List ℕ) → List ℕ
joined [] = []
joined (f ∷ []) = f
joined (f ∷ g ∷ fs) = f ++ 0x20 ∷ joined (g ∷ fs)

-- an input line with these fields, without a line feed or with one
pub record Spelled (fs : List (List ℕ)) (s : List ℕ) : Type 0 where
  pub plain : all_plain fs ≡ true
  pub is : (s ≡ joined fs) ⊎ (s ≡ joined fs ++ 0x0A ∷ [])

-- an input line of the right form, with these fields: mode and rules "one to nine digits each", currency, identifier
pub record Formed (m r c i s : List ℕ) : Type 0 where
  pub spelled : Spelled (m ∷ r ∷ c ∷ i ∷ []) s
  pub mode : numeral m ≡ true
  pub rules : numeral r ≡ true
  pub currency : filled c ≡ true
  pub identifier : filled i ≡ true
  pub short : length s ≤ longest

-- numbers of 32 bits
unfoldable pub all_fit : List ℕ → Bool
all_fit [] = true
all_fit (n ∷ ns) = ltb n (2 ^ 32) && all_fit ns

-- a record file with these numbers, each as four bytes, the least first
unfoldable pub record_bytes : List ℕ → List ℕ
record_bytes [] = []
record_bytes (n ∷ ns) = n % 256 ∷ n / 256 % 256 ∷ n / 65536 % 256 ∷ n / 16777216 ∷ record_bytes ns
