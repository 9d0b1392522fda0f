-- Where the input line of a stored case ends: behind its fourth field.
use Rattle.std.specs.Prelude.{cond, List, ℕ, ◌+◌, ltb, length}
use Rattle.cases.specs.Places.{index_of, slice}

-- the first space from a place on, the end where there is none
unfoldable pub space_from : List ℕ → ℕ → ℕ
space_from s from = from + index_of 0x20 (slice from (length s) s)

-- the next one behind a place
unfoldable pub next_space : List ℕ → ℕ → ℕ
next_space s at = cond (ltb at (length s)) (space_from s (at + 1)) (length s)

-- four fields are parted by three spaces
unfoldable pub fields_end : List ℕ → ℕ
fields_end s = next_space s (next_space s (next_space s (space_from s 0)))
