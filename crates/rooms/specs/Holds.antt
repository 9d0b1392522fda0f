-- What a table holds of elements.
use Rattle.std.specs.Prelude.{◌≡◌, List, ℕ, suc, ◌+◌, ◌*◌, length, get_or}
use Rattle.grammar.specs.Layout.{Forest, empty, tree, count}

-- the text lengths of elements stand in a table, from record k on (document 01: a row's sixth number)
unfoldable pub Holds : List ℕ → ℕ → Forest → Type 0
Holds T k empty = Unit {0}
Holds T k (tree n t zs ks g) = (get_or T (k * 6 + 5) 0 ≡ length t) × Holds T (suc k + length zs) ks × Holds T (suc k + length zs + count ks) g
