-- A table's rows before the starts are known: `filled_rows` (proofs/Fills.antt) joins them to `rows`.
use Rattle.std.specs.Prelude.{List, [], ◌∷◌, ◌++◌, ℕ, suc, ◌+◌, length}
use Rattle.grammar.specs.Layout.{Attr, Forest, empty, tree, count}

-- kind, parent, 0, name length, 0, text length
abbrev pub blank_row : ℕ → ℕ → List ℕ → List ℕ → List ℕ
blank_row kind q n t = kind ∷ q ∷ 0 ∷ length n ∷ 0 ∷ length t ∷ []

unfoldable pub blank_attrs : ℕ → List Attr → List ℕ
blank_attrs q [] = []
blank_attrs q (a ∷ zs) = blank_row 2 q a.name a.value ++ blank_attrs q zs

-- the rows of elements under q, from record k on, without starts
unfoldable pub blank : ℕ → ℕ → Forest → List ℕ
blank q k empty = []
blank q k (tree n t zs ks g) = blank_row 1 q n t ++ (blank_attrs k zs ++ (blank k (suc k + length zs) ks ++ blank q (suc k + length zs + count ks) g))

-- rows with their starts, each name and text right behind the one before, from place p on (request R-3)
unfoldable pub filled : ℕ → List ℕ → List ℕ
filled p [] = []
filled p (kind ∷ []) = []
filled p (kind ∷ q ∷ []) = []
filled p (kind ∷ q ∷ a ∷ []) = []
filled p (kind ∷ q ∷ a ∷ n ∷ []) = []
filled p (kind ∷ q ∷ a ∷ n ∷ b ∷ []) = []
filled p (kind ∷ q ∷ a ∷ n ∷ b ∷ t ∷ rest) = kind ∷ q ∷ p ∷ n ∷ (p + n) ∷ t ∷ filled (p + n + t) rest
