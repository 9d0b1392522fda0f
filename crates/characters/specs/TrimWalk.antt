-- Trimming as one pass over the characters, as the code makes it: `keep_is` (proofs/Trims.antt) joins it to `kept_of`.
use Rattle.std.specs.Prelude.{Bool, cond, List, [], ◌∷◌, ℕ, ◌+◌, Option, None, Some}
use Rattle.text.specs.declared.span.Span.{Span}
use Rattle.text.specs.Range.{within}
use Rattle.characters.specs.Characters.{Char, size}
use Rattle.characters.specs.WhiteSpace.{trims}

-- where what is kept starts, and i where nothing is
abbrev pub started : Option Span → ℕ → ℕ
started None i = i
started (Some p) i = p.start

-- what is kept after one character more, from i up to e: a white one adds nothing yet
unfoldable pub widened : Option Span → Bool → ℕ → ℕ → Option Span
widened k w i e = cond w k (Some (record { start = started k i; end = e }))

-- what is kept after all characters, the first of which starts at i
unfoldable pub keep : ℕ → Option Span → ℕ → List Char → Option Span
keep mode k i [] = k
keep mode k i (x ∷ xs) = keep mode (widened k (trims mode x) i (i + size x)) (i + size x) xs

-- the place of it, 0, 0 where that is nothing
abbrev pub span_of : Option Span → Span
span_of None = record { start = 0; end = 0 }
span_of (Some p) = p

-- an octet that is a character of its own, and in no mode white
unfoldable pub graphic : ℕ → Bool
graphic b = within b 0x21 0x7F
