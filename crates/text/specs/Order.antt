-- Texts in the order of their bytes, as Rust orders `str` and `[u8]`.
use Rattle.std.specs.Prelude.{Bool, true, false, cond, ◌&&◌, List, [], ◌∷◌, ltb, eqb}
use Prim.Native.Nat.{ℕ, Ordering}
use Rattle.std.specs.declared.cmp.Ordering as Code
use Rattle.std.specs.declared.cmp.Ordering.TheVariants.{Less, Equal, Greater}

-- the same bytes
unfoldable pub equal : List ℕ → List ℕ → Bool
equal [] [] = true
equal [] (y ∷ t) = false
equal (x ∷ s) [] = false
equal (x ∷ s) (y ∷ t) = eqb x y && equal s t

-- lexicographic order: the first byte that differs decides, and a text comes before all that it begins
unfoldable pub order : List ℕ → List ℕ → Ordering
order [] [] = Ordering.eq
order [] (y ∷ t) = Ordering.lt
order (x ∷ s) [] = Ordering.gt
order (x ∷ s) (y ∷ t) = cond (ltb x y) Ordering.lt (cond (ltb y x) Ordering.gt (order s t))

-- how the second stands to the first
abbrev pub opposite : Ordering → Ordering
opposite Ordering.lt = Ordering.gt
opposite Ordering.eq = Ordering.eq
opposite Ordering.gt = Ordering.lt

-- what an answer of `compare` says
abbrev pub ordering : Code.Ordering → Ordering
ordering Less = Ordering.lt
ordering Equal = Ordering.eq
ordering Greater = Ordering.gt
