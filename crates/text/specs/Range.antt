-- A range of numbers, as RFC 5234 (section 3.4) and Unicode's tables write it: first-last.
use Rattle.std.specs.Prelude.{Bool, ◌&&◌, ℕ, leb}

-- c is one of the numbers from first to last
unfoldable pub within : ℕ → ℕ → ℕ → Bool
within c first last = leb first c && leb c last
