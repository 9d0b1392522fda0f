-- The mark of an extension in a specification identifier (EN 16931-1, BT-24 and 4.3).
use Rattle.std.specs.Prelude.{Bool, ◌||◌, List, [], ◌∷◌, ℕ, length, take}
use Rattle.text.specs.Order.{equal}
use Rattle.text.specs.Utf8.{bytes}

-- s begins with needle
unfoldable pub begins : List ℕ → List ℕ → Bool
begins needle s = equal (take (length needle) s) needle

-- needle stands somewhere in s, as Rust's `str::contains`
unfoldable pub contains : List ℕ → List ℕ → Bool
contains needle [] = begins needle []
contains needle (b ∷ s) = begins needle (b ∷ s) || contains needle s

-- the identifier of a conformant extension (document 01, `read.rs`: a logistics charge)
unfoldable pub conformant : List ℕ → Bool
conformant s = contains (bytes "#conformant#") s || contains (bytes ":conformant:") s
