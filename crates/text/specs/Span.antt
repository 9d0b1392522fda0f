-- Places in a text, and the bytes there.
use Rattle.std.specs.Prelude.{cond, List, [], ℕ, ◌+◌, ◌-◌, leb, length, take, drop}
use Rattle.text.specs.declared.span.Span.{Span}

-- the bytes at a place
unfoldable pub cut : Span → List ℕ → List ℕ
cut p s = take (p.end - p.start) (drop p.start s)

-- at most len bytes of a text from a place on
unfoldable pub clipped : List ℕ → ℕ → ℕ → List ℕ
clipped x start len = take len (drop start x)

-- len bytes from start on, nothing where they are not all in the text (document 01, "Rows": the view)
unfoldable pub part_of : List ℕ → ℕ → ℕ → List ℕ
part_of s start len = cond (leb (start + len) (length s)) (clipped s start len) []
