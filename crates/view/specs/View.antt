-- What a view of one value answers (document 01, "Rows"): a place is two signed numbers, -1 and 0 where it is absent.
use Rattle.std.specs.Prelude.{Bool, false, List, [], ℕ, ◌+◌, leb, ℤ, pos, negsuc, length}
use Rattle.text.specs.Span.{part_of}

-- the place is present and inside the text
unfoldable pub lies : List ℕ → ℤ → ℤ → Bool
lies s (pos a) (pos n) = leb (a + n) (length s)
lies s (pos a) (negsuc n) = false
lies s (negsuc a) z = false

-- the bytes at the place, none where it is absent or outside the text
unfoldable pub shown_at : List ℕ → ℤ → ℤ → List ℕ
shown_at s (pos a) (pos n) = part_of s a n
shown_at s (pos a) (negsuc n) = []
shown_at s (negsuc a) z = []
