-- Halving finds the place that insertion takes.
use mathlib.Core.Path.{◌≡◌, refl, ap}
use mathlib.Core.List.{List, [], ◌∷◌, ◌++◌}
use Prim.Native.Nat.{ℕ, zero, suc, ◌+◌, ◌-◌, ◌≤◌, ◌<◌, Ordering}
use native.Mathlib.Omega.{arith}
use native.Mathlib.Decide.{dec_lt}
use lib.ListN.{length, get_or, take, drop}
use Rattle.settlement.specs.Walk.{insert}
use Rattle.settlement.specs.Sorted.{Ascending}
use Rattle.unmapped.specs.Search.{middle, turned, halve}
use Rattle.unmapped.proofs.Halving.{halve_in, halve_out}
use Rattle.std.specs.Prelude.{Option, None, Some}

-- of n rows, the spot is behind those that come before the element, and before those that come behind it
pub data Met (c : ℕ → Ordering) (n : ℕ) : Option ℕ → Type 0 where
  taken : (k : ℕ) → k < n → c k ≡ Ordering.eq → ((i : ℕ) → i < k → c i ≡ Ordering.gt) → Met c n None
  free : {k : ℕ} → k ≤ n → ((i : ℕ) → i < k → c i ≡ Ordering.gt) → ((i : ℕ) → k ≤ i → i < n → c i ≡ Ordering.lt) → Met c n (Some k)

-- where what comes before a row comes before the later ones, and what does not comes behind the earlier ones
module _ (c : ℕ → Ordering) (n : ℕ)
    (later : (i j : ℕ) → i < j → j < n → c i ≡ Ordering.lt → c j ≡ Ordering.lt)
    (same : (i j : ℕ) → i < j → j < n → c j ≡ Ordering.eq → c i ≡ Ordering.gt)
    (earlier : (i j : ℕ) → i < j → j < n → c j ≡ Ordering.gt → c i ≡ Ordering.gt) where
  pub halve_met : (fuel lo hi : ℕ) → hi - lo ≤ fuel → lo ≤ hi → hi ≤ n → ((i : ℕ) → i < lo → c i ≡ Ordering.gt) → ((i : ℕ) → hi ≤ i → i < n → c i ≡ Ordering.lt) → Met c n (halve c fuel lo hi)
  halve_met zero lo hi f h h' a b = rw (halve_out c zero lo hi (omega arith)) (free {k = lo} (omega arith) a (λ i p q. b i (omega arith) q))
  halve_met (suc fuel) lo hi f h h' a b =
      elim (dec_lt lo hi) [
        | yes l ↦
            rw (halve_in c fuel lo hi l)
            (go (c (middle lo hi)) (halve c fuel lo (middle lo hi)) (halve c fuel (middle lo hi + 1) hi) refl (omega arith)
            (halve_met fuel lo (middle lo hi) (omega arith) (omega arith) (omega arith) a)
            (λ m. halve_met fuel (middle lo hi + 1) hi (omega arith) (omega arith) h' m b))
        | no l ↦ rw (halve_out c (suc fuel) lo hi (omega arith)) (free {k = lo} (omega arith) a (λ i p q. b i (omega arith) q))
      ]
    where
      -- up to a row, and from one on
      up_to : (m : ℕ) → ((i : ℕ) → i < m → c i ≡ Ordering.gt) → c m ≡ Ordering.gt → (i : ℕ) → i < m + 1 → c i ≡ Ordering.gt
      up_to m g e i p = elim (dec_lt i m) [ yes q ↦ g i q | no q ↦ let w : i ≡ m = omega arith in rw w e ]

      from : (m : ℕ) → ((i : ℕ) → m < i → i < n → c i ≡ Ordering.lt) → c m ≡ Ordering.lt → (i : ℕ) → m ≤ i → i < n → c i ≡ Ordering.lt
      from m g e i p q = elim (dec_lt m i) [ yes r ↦ g i r q | no r ↦ let w : i ≡ m = omega arith in rw w e ]

      go : (o : Ordering) (s t : Option ℕ) → c (middle lo hi) ≡ o → middle lo hi < n → (((i : ℕ) → middle lo hi ≤ i → i < n → c i ≡ Ordering.lt) → Met c n s) → (((i : ℕ) → i < middle lo hi + 1 → c i ≡ Ordering.gt) → Met c n t) → Met c n (turned o s t)
      go Ordering.lt s t e m r q = r (from (middle lo hi) (λ i p w. later (middle lo hi) i p w e) e)
      go Ordering.eq s t e m r q = taken (middle lo hi) m e (λ i p. same i (middle lo hi) p m e)
      go Ordering.gt s t e m r q = q (up_to (middle lo hi) (λ i p. earlier i (middle lo hi) p m e) e)

-- insertion at a spot
module _ {A : Type 0} (c : A → A → Ordering) (u : A) where
  pub insert_taken : (us : List A) (k : ℕ) → k < length us → c u (get_or us k u) ≡ Ordering.eq → ((i : ℕ) → i < k → c u (get_or us i u) ≡ Ordering.gt) → insert c u us ≡ us
  unfolding insert
  insert_taken [] k h e g = absurd (omega arith)
  insert_taken (b ∷ l) zero h e g = rw e
  insert_taken (b ∷ l) (suc k) h e g = rw (g zero (omega arith)) (ap (λ (m : List A). b ∷ m) (insert_taken l k (omega arith) e (λ i p. g (suc i) (omega arith))))

  pub insert_free : (us : List A) (k : ℕ) → k ≤ length us → ((i : ℕ) → i < k → c u (get_or us i u) ≡ Ordering.gt) → ((i : ℕ) → k ≤ i → i < length us → c u (get_or us i u) ≡ Ordering.lt) → insert c u us ≡ take k us ++ u ∷ drop k us
  unfolding insert
  insert_free [] zero h g f = refl
  insert_free [] (suc k) h g f = absurd (omega arith)
  insert_free (b ∷ l) zero h g f = rw (f zero (omega arith) (omega arith))
  insert_free (b ∷ l) (suc k) h g f =
      rw (g zero (omega arith)) (ap (λ (m : List A). b ∷ m) (insert_free l k (omega arith) (λ i p. g (suc i) (omega arith)) (λ i p q. f (suc i) (omega arith) (omega arith))))

-- of ascending elements each comes before all later ones
module _ {A : Type 0} (c : A → A → Ordering) (trans : (a b d : A) → c a b ≡ Ordering.lt → c b d ≡ Ordering.lt → c a d ≡ Ordering.lt) where
  first_before : (a : A) (l : List A) (d : A) (i : ℕ) → Ascending c (a ∷ l) → i < length l → c a (get_or l i d) ≡ Ordering.lt
  first_before a [] d i s h = absurd (omega arith)
  first_before a (b ∷ l) d zero s h = s.0
  first_before a (b ∷ l) d (suc i) s h = trans a b (get_or l i d) s.0 (first_before b l d i s.1 (omega arith))

  pub ascending_before : (us : List A) (d : A) (i j : ℕ) → Ascending c us → i < j → j < length us → c (get_or us i d) (get_or us j d) ≡ Ordering.lt
  ascending_before [] d i j s p h = absurd (omega arith)
  ascending_before (a ∷ l) d i zero s p h = absurd (omega arith)
  ascending_before (a ∷ l) d zero (suc j) s p h = first_before a l d j s (omega arith)
  ascending_before (a ∷ l) d (suc i) (suc j) s p h = ascending_before l d i j s.1 (omega arith) (omega arith)
