-- White space, and what each mode trims.
use Rattle.characters.specs.Characters.{Char, Bad, Point}
use Rattle.std.specs.Prelude.{Bool, false, cond, ◌||◌, List, [], ◌∷◌, ℕ, eqb}
use Rattle.text.specs.Range.{within}

-- c is in one of the ranges
unfoldable pub in_ranges : ℕ → List (ℕ × ℕ) → Bool
in_ranges c [] = false
in_ranges c (r ∷ rs) = within c r.0 r.1 || in_ranges c rs

-- the property White_Space of Unicode's PropList.txt, which Rust's `char::is_whitespace` has
unfoldable pub white_spaces : List (ℕ × ℕ)
white_spaces =
    (0x9, 0xD) ∷ (0x20, 0x20) ∷ (0x85, 0x85) ∷ (0xA0, 0xA0) ∷ (0x1680, 0x1680) ∷ (0x2000, 0x200A) ∷
    (0x2028, 0x2028) ∷ (0x2029, 0x2029) ∷ (0x202F, 0x202F) ∷ (0x205F, 0x205F) ∷ (0x3000, 0x3000) ∷ []

-- c has the property
unfoldable pub white_space : ℕ → Bool
white_space c = in_ranges c white_spaces

-- tab, line feed, carriage return, space: what `collapse` takes from a text's ends (XML Schema part 2, 4.3.6)
unfoldable pub blank : ℕ → Bool
blank c = eqb c 0x9 || eqb c 0xA || eqb c 0xD || eqb c 0x20

-- mode 0 trims White_Space, any other what is blank (document 01, "From the tree to the table"; R-1)
unfoldable pub white : ℕ → ℕ → Bool
white mode c = cond (eqb mode 0) (white_space c) (blank c)

-- a mode trims a character; what is none is never trimmed
abbrev pub trims : ℕ → Char → Bool
trims mode Bad = false
trims mode (Point c n) = white mode c
