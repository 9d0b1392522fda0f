-- Where a byte stands.
use Rattle.std.specs.Prelude.{cond, List, [], ◌∷◌, ℕ, ◌+◌, ◌-◌, eqb, take, drop}

-- the place of the first byte b, the length where there is none
unfoldable pub index_of : ℕ → List ℕ → ℕ
index_of b [] = 0
index_of b (c ∷ s) = cond (eqb c b) 0 (1 + index_of b s)

-- the bytes from one place up to another
abbrev pub slice : ℕ → ℕ → List ℕ → List ℕ
slice from to s = take (to - from) (drop from s)
