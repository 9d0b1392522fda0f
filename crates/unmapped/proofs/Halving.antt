-- Laws of halving: enough turns, and the turns of the loop that searches.
use mathlib.Core.Path.{◌≡◌, refl, sym, ◌∙◌, ap}
use mathlib.Core.List.{List}
use Prim.Native.Nat.{ℕ, zero, suc, ◌+◌, ◌-◌, ◌≤◌, ◌<◌, Ordering}
use native.Mathlib.Omega.{arith}
use native.Mathlib.Decide.{dec_lt}
use borrow.Author.Tests.{lt-ltb, le-ltb}
use lib.IntN.{ℤ}
use Rattle.text.specs.Order.{ordering}
use Rattle.std.specs.declared.cmp.Ordering as Code
use Rattle.std.specs.declared.cmp.Ordering.TheVariants.{Less, Equal, Greater}
use Rattle.report.specs.Rows.{Place, Unmapped}
use Rattle.unmapped.specs.Row.{standing}
use Rattle.unmapped.specs.Search.{middle, turned, halve, sought}
use Rattle.std.specs.Prelude.{Option, None, Some}

module _ (c : ℕ → Ordering) where
  -- a turn, and none
  pub halve_in : (n lo hi : ℕ) → lo < hi → halve c (suc n) lo hi ≡ turned (c (middle lo hi)) (halve c n lo (middle lo hi)) (halve c n (middle lo hi + 1) hi)
  unfolding halve
  halve_in n lo hi h = rw (lt-ltb lo hi h)

  pub halve_out : (n lo hi : ℕ) → hi ≤ lo → halve c n lo hi ≡ Some lo
  unfolding halve
  halve_out zero lo hi h = refl
  halve_out (suc n) lo hi h = rw (le-ltb lo hi h)

  -- as many turns as there are rows are enough
  halve_enough : (n m lo hi : ℕ) → hi - lo ≤ n → hi - lo ≤ m → halve c n lo hi ≡ halve c m lo hi
  halve_enough zero m lo hi h k = halve_out zero lo hi (omega arith) ∙ sym (halve_out m lo hi (omega arith))
  halve_enough (suc n) zero lo hi h k = halve_out (suc n) lo hi (omega arith) ∙ sym (halve_out zero lo hi (omega arith))
  halve_enough (suc n) (suc m) lo hi h k =
      elim (dec_lt lo hi) [
        | yes l ↦
            rw (halve_in n lo hi l, halve_in m lo hi l, halve_enough n m lo (middle lo hi) (omega arith) (omega arith), halve_enough n m (middle lo hi + 1) hi (omega arith) (omega arith))
        | no l ↦ halve_out (suc n) lo hi (omega arith) ∙ sym (halve_out (suc m) lo hi (omega arith))
      ]

  halve_turn : (lo hi : ℕ) → lo < hi → halve c (hi - lo) lo hi ≡ turned (c (middle lo hi)) (halve c (middle lo hi - lo) lo (middle lo hi)) (halve c (hi - (middle lo hi + 1)) (middle lo hi + 1) hi)
  halve_turn lo hi h =
      let n = hi - lo - 1 in
      let e : hi - lo ≡ suc n = omega arith in
      ap (λ (m : ℕ). halve c m lo hi) e
      ∙ halve_in n lo hi h
      ∙ rw (halve_enough n (middle lo hi - lo) lo (middle lo hi) (omega arith) (omega arith), halve_enough n (hi - (middle lo hi + 1)) (middle lo hi + 1) hi (omega arith) (omega arith))

  -- the spot lies in reach
  halve_within : (n lo hi k : ℕ) → lo ≤ hi → halve c n lo hi ≡ Some k → k ≤ hi
  unfolding halve
  halve_within zero lo hi k h e = let p : lo ≡ k = cc in omega arith
  halve_within (suc n) lo hi k h e =
      elim (dec_lt lo hi) [
        | yes l ↦
            go (c (middle lo hi)) (halve c n lo (middle lo hi)) (halve c n (middle lo hi + 1) hi) (sym (halve_in n lo hi l) ∙ e)
            (λ f. let r = halve_within n lo (middle lo hi) k (omega arith) f in omega arith)
            (halve_within n (middle lo hi + 1) hi k (omega arith))
        | no l ↦ let f : Some lo ≡ Some k = sym (halve_out (suc n) lo hi (omega arith)) ∙ e in let p : lo ≡ k = cc in omega arith
      ]
    where
      go : (o : Ordering) (a b : Option ℕ) → turned o a b ≡ Some k → (a ≡ Some k → k ≤ hi) → (b ≡ Some k → k ≤ hi) → k ≤ hi
      go Ordering.lt a b t f g = f t
      go Ordering.eq a b t f g = absurd (let z : ◌≡◌ {A = ℕ} 0 1 = cc in omega arith)
      go Ordering.gt a b t f g = g t

-- the loop that searches, at lo and hi
module _ (x : List ℕ) (l : List ℤ) (n : ℕ) (u : Unmapped Place) where
  pub seek_start : sought x l n u ≡ halve (standing x l u) (n - 0) 0 n
  unfolding sought
  seek_start = let e : n - 0 ≡ n = omega arith in rw e

  module _ {lo hi : ℕ} (q : sought x l n u ≡ halve (standing x l u) (hi - lo) lo hi) where
    pub seek_end : hi ≤ lo → Some lo ≡ sought x l n u
    seek_end h = sym (q ∙ halve_out (standing x l u) (hi - lo) lo hi h)

    module _ (s : Code.Ordering) (h : lo < hi) (o : ordering s ≡ standing x l u (middle lo hi)) where
      at : sought x l n u ≡ turned (ordering s) (halve (standing x l u) (middle lo hi - lo) lo (middle lo hi)) (halve (standing x l u) (hi - (middle lo hi + 1)) (middle lo hi + 1) hi)
      at = q ∙ halve_turn (standing x l u) lo hi h ∙ rw o

      pub seek_before : s ≡ Less → sought x l n u ≡ halve (standing x l u) (middle lo hi - lo) lo (middle lo hi)
      seek_before e = at ∙ rw e

      pub seek_there : s ≡ Equal → None ≡ sought x l n u
      seek_there e = sym (at ∙ rw e)

      pub seek_behind : s ≡ Greater → sought x l n u ≡ halve (standing x l u) (hi - (middle lo hi + 1)) (middle lo hi + 1) hi
      seek_behind e = at ∙ rw e

-- a free spot is before a row or behind the last
pub sought_within : (x : List ℕ) (l : List ℤ) (n : ℕ) (u : Unmapped Place) {s : Option ℕ} {k : ℕ} → s ≡ sought x l n u → s ≡ Some k → k ≤ n
unfolding sought
sought_within x l n u {s} {k} p q = halve_within (standing x l u) n 0 n k (omega arith) (sym p ∙ q)
