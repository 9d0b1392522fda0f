-- Trimming: Rust's `str::trim` in mode 0 (document 01, "From the tree to the table"), else the ends of XML Schema's `collapse` (R-1).
use Rattle.std.specs.Prelude.{Bool, true, cond, ◌&&◌, List, [], ◌∷◌, ℕ, ◌+◌, length}
use Rattle.text.specs.declared.span.Span.{Span}
use Rattle.text.specs.Span.{cut}
use Rattle.characters.specs.Characters.{Char, size, chars, utf8}
use Rattle.characters.specs.WhiteSpace.{trims}

-- every character is trimmed
unfoldable pub all_white : ℕ → List Char → Bool
all_white mode [] = true
all_white mode (x ∷ xs) = trims mode x && all_white mode xs

-- the bytes of the white characters at the front
unfoldable pub before : ℕ → List Char → ℕ
before mode [] = 0
before mode (x ∷ xs) = cond (trims mode x) (size x + before mode xs) 0

-- the bytes up to the end of the last character that is not white
unfoldable pub through : ℕ → List Char → ℕ
through mode [] = 0
through mode (x ∷ xs) = cond (all_white mode (x ∷ xs)) 0 (size x + through mode xs)

-- the place of what is kept of characters, 0, 0 where that is nothing
unfoldable pub kept_of : ℕ → List Char → Span
kept_of mode xs = cond (all_white mode xs) (record { start = 0; end = 0 }) (record { start = before mode xs; end = through mode xs })

-- the place of what trimming leaves; bytes that are not UTF-8 stay as they are (document 01, `amount.rs`)
unfoldable pub trimmed : ℕ → List ℕ → Span
trimmed mode s = cond (utf8 s) (kept_of mode (chars 0 s)) (record { start = 0; end = length s })

-- what trimming leaves
unfoldable pub trim_of : ℕ → List ℕ → List ℕ
trim_of mode s = cut (trimmed mode s) s
