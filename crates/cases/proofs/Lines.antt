-- The loop over the numbers of a line.
use mathlib.Core.Path.{◌≡◌, sym, ◌∙◌, ap}
use mathlib.Core.Bool.{Bool, true, false}
use mathlib.Core.List.{List, [], ◌∷◌}
use Prim.Native.Nat.{ℕ, ◌+◌, ◌≤◌, ◌<◌}
use native.Mathlib.Omega.{arith}
use native.Mathlib.Numerals.{add-one}
use lib.ListN.{length, get_or, drop, set, drop_of_length-le}
use lib.Seq.{drop-cons}
use Rattle.text.specs.Digits.{digit}
use Rattle.names.specs.Put.{put}
use Rattle.cases.specs.Numbers.{grown, numbers_from, Listed}

-- k numbers stand in l, the one being read is n, and the bytes from i on are still to be read
pub record Listing (s l₀ l : List ℕ) (k n i : ℕ) : Type 0 where
  pub now : put l₀ 0 (numbers_from 0 s) ≡ put l k (numbers_from n (drop i s))
  pub many : length (numbers_from 0 s) ≡ k + length (numbers_from n (drop i s))

-- the numbers from i on: a digit, another byte, the end
module _ (s : List ℕ) (n i : ℕ) where
  numbers_digit : i < length s → (d : Bool) → d ≡ digit (get_or s i 0) → d ≡ true → (m : ℕ) → m ≡ grown n (get_or s i 0) → numbers_from n (drop i s) ≡ numbers_from m (drop (i + 1) s)
  unfolding numbers_from
  numbers_digit h d q t m e = rw (add-one, drop-cons s i 0, ← q, t, e)

  numbers_next : i < length s → (d : Bool) → d ≡ digit (get_or s i 0) → d ≡ false → numbers_from n (drop i s) ≡ n ∷ numbers_from 0 (drop (i + 1) s)
  unfolding numbers_from
  numbers_next h d q t = rw (add-one, drop-cons s i 0, ← q, t)

  numbers_end : length s ≤ i → numbers_from n (drop i s) ≡ n ∷ []
  unfolding numbers_from
  numbers_end h = rw (drop_of_length-le s h)

module _ (s l₀ l : List ℕ) (k n i : ℕ) (f : Listing s l₀ l k n i) where
  pub listing_digit : i < length s → (d : Bool) → d ≡ digit (get_or s i 0) → d ≡ true → (m : ℕ) → m ≡ grown n (get_or s i 0) → Listing s l₀ l k m (i + 1)
  listing_digit h d q t m e =
      let z = numbers_digit s n i h d q t m e in
      record { now = f.now ∙ ap (put l k) z; many = f.many ∙ ap (λ (v : List ℕ). k + length v) z }

  pub listing_next : i < length s → (d : Bool) → d ≡ digit (get_or s i 0) → d ≡ false → (l' : List ℕ) → l' ≡ set l k n → Listing s l₀ l' (k + 1) 0 (i + 1)
  unfolding put
  listing_next h d q t l' e =
      let z = numbers_next s n i h d q t in
      record { now = f.now ∙ ap (put l k) z ∙ rw (e, add-one k); many = omega (arith, f.many, ap length z) }

  pub listing_end : length s ≤ i → (l' : List ℕ) → l' ≡ set l k n → Listed s l₀ l' (k + 1)
  unfolding put
  listing_end h l' e =
      let z = numbers_end s n i h in
      record { now = sym (f.now ∙ ap (put l k) z ∙ sym e); many = omega (arith, f.many, ap length z) }
