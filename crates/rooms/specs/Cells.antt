-- The numbers of a table's rows (request R-3).
use Rattle.std.specs.Prelude.{Bool, true, ◌&&◌, List, [], ◌∷◌, ℕ, leb, length}
use Rattle.grammar.specs.Layout.{Attr, Forest, empty, tree}

-- no number is past 32 bits (request R-3, refusal 25)
unfoldable pub narrow : List ℕ → Bool
narrow [] = true
narrow (n ∷ l) = leb n 4294967295 && narrow l

-- the length of the last record's text, d where there is no record
unfoldable pub last_attr : ℕ → List Attr → ℕ
last_attr d [] = d
last_attr d (a ∷ zs) = last_attr (length a.value) zs

unfoldable pub last_of : ℕ → Forest → ℕ
last_of d empty = d
last_of d (tree n t zs ks g) = last_of (last_of (last_attr (length t) zs) ks) g
