-- Bytes of a text as one number.
use Rattle.std.specs.Int.{w64, from_le_bytes}
use Rattle.std.specs.Prelude.{List, ℕ, take, drop}

-- eight bytes from i on, the first the least
abbrev pub word_at : List ℕ → ℕ → ℕ
word_at s i = from_le_bytes w64 (take 8 (drop i s))
