-- Laws of equality and order of texts.
use mathlib.Core.Path.{◌≡◌, refl, sym, ◌∙◌, ap}
use mathlib.Core.Bool.{Bool, true, false}
use mathlib.Core.List.{List, [], ◌∷◌}
use Prim.Native.Nat.{Ordering, ℕ, ◌≤◌, ◌<◌}
use native.Mathlib.Omega.{arith}
use native.Mathlib.Decide.{dec_lt}
use borrow.Author.Tests.{lt-ltb, le-ltb, eqb-true, eq-eqb, ne_eqb}
use lib.Dec.{eqb}
use lib.ListN.{length, drop, drop_of_length-le}
use Rattle.std.specs.declared.cmp.Ordering as Code
use Rattle.std.specs.Cmp.Lexicographic.{pointwise, slice_cmp}
use Rattle.std.specs.Ordering.{nat_cmp, ordering_then}
use Rattle.std.specs.Prelude.{nat_eq}
use Rattle.text.specs.Order.{equal, order, opposite, ordering}
use Rattle.text.proofs.Bools.{both}

-- `equal` is equality
pub equal_is : (s t : List ℕ) → equal s t ≡ true → s ≡ t
unfolding equal
equal_is [] [] e = refl
equal_is [] (y ∷ t) e = cc
equal_is (x ∷ s) [] e = cc
equal_is (x ∷ s) (y ∷ t) e =
    let b = both (eqb x y) (equal s t) e in
    let p = eqb-true x y b.0 in
    let q = equal_is s t b.1 in
    cc

pub equal_refl : (s : List ℕ) → equal s s ≡ true
unfolding equal
equal_refl [] = refl
equal_refl (x ∷ s) = rw (eq-eqb x x refl) (equal_refl s)

-- texts that differ in anything
pub differ : {A : Type 0} (f : List ℕ → A) (s t : List ℕ) → (f s ≡ f t → ⊥) → false ≡ equal s t
differ f s t n = go (equal s t) refl
  where
    go : (b : Bool) → equal s t ≡ b → false ≡ b
    go true e = absurd (n (ap f (equal_is s t e)))
    go false e = refl

-- texts of different lengths
pub equal_lengths : (s t : List ℕ) → (length s ≡ length t → ⊥) → false ≡ equal s t
equal_lengths s t n = differ length s t n

-- `order` is a total order, and its equality is that of lists
pub order_refl : (s : List ℕ) → order s s ≡ Ordering.eq
unfolding order
order_refl [] = refl
order_refl (x ∷ s) = rw (le-ltb x x (omega arith)) (order_refl s)

-- the first bytes decide, or else what follows them
less_first : (x y : ℕ) (s t : List ℕ) → x < y → order (x ∷ s) (y ∷ t) ≡ Ordering.lt
unfolding order
less_first x y s t h = rw (lt-ltb x y h)

order_next : (x y : ℕ) (s t : List ℕ) → x ≡ y → order (x ∷ s) (y ∷ t) ≡ order s t
unfolding order
order_next x y s t e = rw (le-ltb x y (omega arith), le-ltb y x (omega arith))

greater_first : (x y : ℕ) (s t : List ℕ) → y < x → order (x ∷ s) (y ∷ t) ≡ Ordering.gt
unfolding order
greater_first x y s t h = rw (le-ltb x y (omega arith), lt-ltb y x h)

-- the two first bytes: the first is less, they are the same, the second is less
pub data Heads (x y : ℕ) : Type 0 where
  less : x < y → Heads x y
  alike : x ≡ y → Heads x y
  more : y < x → Heads x y

heads : (x y : ℕ) → Heads x y
heads x y = elim (dec_lt x y) [ yes h ↦ less h | no h ↦ elim (dec_lt y x) [ yes k ↦ more k | no k ↦ alike (omega arith) ] ]

lt≢eq : {A : Type 0} → Ordering.lt ≡ Ordering.eq → A
lt≢eq e = absurd (let w : ◌≡◌ {A = ℕ} 0 1 = cc in omega arith)

gt≢eq : {A : Type 0} → Ordering.gt ≡ Ordering.eq → A
gt≢eq e = absurd (let w : ◌≡◌ {A = ℕ} 0 1 = cc in omega arith)

gt≢lt : {A : Type 0} → Ordering.gt ≡ Ordering.lt → A
gt≢lt e = absurd (let w : ◌≡◌ {A = ℕ} 0 1 = cc in omega arith)

pub order_is : (s t : List ℕ) → order s t ≡ Ordering.eq → s ≡ t
unfolding order
order_is [] [] e = refl
order_is [] (y ∷ t) e = lt≢eq e
order_is (x ∷ s) [] e = gt≢eq e
order_is (x ∷ s) (y ∷ t) e = go (heads x y) (order_is s t)
  where
    go : Heads x y → (order s t ≡ Ordering.eq → s ≡ t) → x ∷ s ≡ y ∷ t
    go (less h) r = lt≢eq (sym (less_first x y s t h) ∙ e)
    go (alike q) r = let z = r (sym (order_next x y s t q) ∙ e) in cc
    go (more h) r = gt≢eq (sym (greater_first x y s t h) ∙ e)

pub order_turned : (s t : List ℕ) → order t s ≡ opposite (order s t)
unfolding order
order_turned [] [] = refl
order_turned [] (y ∷ t) = refl
order_turned (x ∷ s) [] = refl
order_turned (x ∷ s) (y ∷ t) = go (heads x y) (order_turned s t)
  where
    go : Heads x y → order t s ≡ opposite (order s t) → order (y ∷ t) (x ∷ s) ≡ opposite (order (x ∷ s) (y ∷ t))
    go (less h) r = greater_first y x t s h ∙ rw (less_first x y s t h)
    go (alike q) r = order_next y x t s (sym q) ∙ r ∙ rw (order_next x y s t q)
    go (more h) r = less_first y x t s h ∙ rw (greater_first x y s t h)

nothing_less : {A : Type 0} (t : List ℕ) → order t [] ≡ Ordering.lt → A
unfolding order
nothing_less [] e = lt≢eq (sym e)
nothing_less (y ∷ t) e = gt≢lt e

pub order_trans : (s t u : List ℕ) → order s t ≡ Ordering.lt → order t u ≡ Ordering.lt → order s u ≡ Ordering.lt
unfolding order
order_trans [] t [] e f = nothing_less t f
order_trans [] t (z ∷ u) e f = refl
order_trans (x ∷ s) [] u e f = gt≢lt e
order_trans (x ∷ s) (y ∷ t) [] e f = gt≢lt f
order_trans (x ∷ s) (y ∷ t) (z ∷ u) e f = go (heads x y) (heads y z) (order_trans s t u)
  where
    go : Heads x y → Heads y z → (order s t ≡ Ordering.lt → order t u ≡ Ordering.lt → order s u ≡ Ordering.lt) → order (x ∷ s) (z ∷ u) ≡ Ordering.lt
    go (less h) (less k) r = less_first x z s u (omega arith)
    go (less h) (alike q) r = less_first x z s u (omega arith)
    go (alike p) (less k) r = less_first x z s u (omega arith)
    go (alike p) (alike q) r = order_next x z s u (p ∙ q) ∙ r (sym (order_next x y s t p) ∙ e) (sym (order_next y z t u q) ∙ f)
    go (more h) k r = gt≢lt (sym (greater_first x y s t h) ∙ e)
    go (less h) (more k) r = gt≢lt (sym (greater_first y z t u k) ∙ f)
    go (alike p) (more k) r = gt≢lt (sym (greater_first y z t u k) ∙ f)

-- `equal` is the library's test, and `order` its order
pub equal_pointwise : (s t : List ℕ) → pointwise nat_eq s t ≡ equal s t
unfolding equal
equal_pointwise [] [] = refl
equal_pointwise [] (y ∷ t) = refl
equal_pointwise (x ∷ s) [] = refl
equal_pointwise (x ∷ s) (y ∷ t) = rw (equal_pointwise s t)

slices : (s t : List ℕ) → ordering (slice_cmp nat_cmp s t) ≡ order s t
unfolding order
slices [] [] = refl
slices [] (y ∷ t) = refl
slices (x ∷ s) [] = refl
slices (x ∷ s) (y ∷ t) = go (heads x y) (slices s t)
  where
    go : Heads x y → ordering (slice_cmp nat_cmp s t) ≡ order s t → ordering (ordering_then (nat_cmp x y) (slice_cmp nat_cmp s t)) ≡ order (x ∷ s) (y ∷ t)
    go (less h) r = rw (lt-ltb x y h)
    go (alike q) r = rw (le-ltb x y (omega arith), le-ltb y x (omega arith), eq-eqb x y q) r
    go (more h) r = rw (le-ltb x y (omega arith), lt-ltb y x h, ne_eqb x y (λ e. omega arith))

pub order_slices : (s t : List ℕ) (o : Code.Ordering) → o ≡ slice_cmp nat_cmp s t → ordering o ≡ order s t
order_slices s t o e = ap ordering e ∙ slices s t

-- two texts that are alike up to i, where both end there
module _ (s t : List ℕ) (i : ℕ) (e : order s t ≡ order (drop i s) (drop i t)) where
  pub order_end : i ≤ length t → length s ≤ i → length t ≤ length s → Ordering.eq ≡ order s t
  unfolding order
  order_end b h l = sym (e ∙ rw (drop_of_length-le s h, drop_of_length-le t {i = i} (omega arith)))
