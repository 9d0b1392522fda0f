-- The settlement, its children and their children are no more than the records: no record is counted twice.
use mathlib.Core.Path.{◌≡◌, refl, ap, sym, subst}
use mathlib.Core.Bool.{Bool, true, false, cond, ◌&&◌}
use mathlib.Core.List.{List, [], ◌∷◌, ◌++◌}
use Prim.Native.Nat.{ℕ, zero, suc, ◌+◌, ◌-◌, ◌≤◌, ◌<◌}
use native.Mathlib.Omega.{arith}
use native.Mathlib.Decide.{ℕ_discrete}
use borrow.Author.Tests.{ne_eqb}
use lib.Dec.{eqb, ltb}
use lib.ListN.{length, length-append}
use Rattle.table.specs.Table.{records, cell, kin, below, kids}
use Rattle.table.proofs.Kin.{kin_parts}

-- the sum of a number for each element of a list
abbrev pub total : {C : Type 0} → (C → ℕ) → List C → ℕ
total w [] = 0
total w (c ∷ l) = w c + total w l

-- 1 where a test passes
abbrev one : Bool → ℕ
one true = 1
one false = 0

-- how often p stands in a list
abbrev times : ℕ → List ℕ → ℕ
times p [] = 0
times p (c ∷ l) = one (eqb p c) + times p l

-- a test counts at most 1
one_most : (b : Bool) → one b ≤ 1
one_most true = omega arith
one_most false = omega arith

-- in two lists together
times_append : (p : ℕ) (l m : List ℕ) → times p (l ++ m) ≡ times p l + times p m
times_append p [] m = omega arith
times_append p (c ∷ l) m = omega (arith, times_append p l m)

-- what a test adds
times_cond : (p j : ℕ) (b : Bool) → times p (cond b (j ∷ []) []) ≤ one (eqb p j)
times_cond p j true = omega arith
times_cond p j false = omega arith

-- and how long that is
length_cond : (b : Bool) (j : ℕ) → length (cond b (j ∷ []) []) ≡ one b
length_cond true j = refl
length_cond false j = refl

module _ (t : List ℕ) where
  -- the children below j are numbers below j
  times_late : (i j p : ℕ) → j ≤ p → times p (below t 1 i j) ≡ 0
  unfolding below
  times_late i zero p h = refl
  times_late i (suc j) p h =
      let o : one (eqb p j) ≡ 0 = ap one (ne_eqb p j (λ q. omega arith)) in
      omega (arith, times_append p (below t 1 i j) (cond (kin t 1 i j) (j ∷ []) []), times_late i j p (omega arith), times_cond p j (kin t 1 i j))

  -- each once
  times_once : (i j p : ℕ) → times p (below t 1 i j) ≤ 1
  unfolding below
  times_once i zero p = omega arith
  times_once i (suc j) p = go (ℕ_discrete p j) (times_once i j p) (times_append p (below t 1 i j) (cond (kin t 1 i j) (j ∷ []) [])) (times_cond p j (kin t 1 i j))
    where
      go : Dec (p ≡ j) → times p (below t 1 i j) ≤ 1 →
          times p (below t 1 i j ++ cond (kin t 1 i j) (j ∷ []) []) ≡ times p (below t 1 i j) + times p (cond (kin t 1 i j) (j ∷ []) []) →
          times p (cond (kin t 1 i j) (j ∷ []) []) ≤ one (eqb p j) → times p (below t 1 i j ++ cond (kin t 1 i j) (j ∷ []) []) ≤ 1
      go (yes q) h e k = omega (arith, times_late i j p (omega arith), one_most (eqb p j))
      go (no n) h e k = let o : one (eqb p j) ≡ 0 = ap one (ne_eqb p j n) in omega arith

  -- record 0 is nobody's child
  kin_root : (i : ℕ) → kin t 1 i 0 ≡ false
  kin_root i = go (kin t 1 i 0) refl
    where
      go : (b : Bool) → kin t 1 i 0 ≡ b → b ≡ false
      go true e = let h : i < 0 = (kin_parts t 1 i 0 e).earlier in absurd (omega arith)
      go false e = refl

  -- so nothing is a child among the first record alone
  below_one : (i : ℕ) → below t 1 i 1 ≡ []
  unfolding below
  below_one i = rw (kin_root i)

  -- and record 0 among no children
  times_root : (i j : ℕ) → times 0 (below t 1 i j) ≡ 0
  unfolding below
  times_root i zero = refl
  times_root i (suc zero) = rw (kin_root i)
  times_root i (suc (suc j)) =
      let o : one (eqb 0 (suc j)) ≡ 0 = ap one (ne_eqb 0 (suc j) (λ q. omega arith)) in
      omega (arith, times_append 0 (below t 1 i (suc j)) (cond (kin t 1 i (suc j)) (suc j ∷ []) []), times_root i (suc j), times_cond 0 (suc j) (kin t 1 i (suc j)))

  -- one record more is a child of its parent alone
  one_kin : (c j : ℕ) → one (kin t 1 c j) ≤ one (eqb (cell t j 1) c)
  unfolding kin
  one_kin c j = go (eqb (cell t j 0) 1) (eqb (cell t j 1) c) (ltb c j)
    where
      go : (a b d : Bool) → one (a && (b && d)) ≤ one b
      go true true d = one_most d
      go true false d = omega arith
      go false b d = omega arith

  -- so the children of different parents grow by one at most
  one_more : (j : ℕ) (l : List ℕ) → total (λ c. length (below t 1 c (suc j))) l ≤ total (λ c. length (below t 1 c j)) l + times (cell t j 1) l
  unfolding below
  one_more j [] = omega arith
  one_more j (c ∷ l) = omega (arith, one_more j l, length-append (below t 1 c j) (cond (kin t 1 c j) (j ∷ []) []), length_cond (kin t 1 c j) j, one_kin c j)

  -- from none
  none_first : (l : List ℕ) → total (λ c. length (below t 1 c 1)) l ≡ 0
  none_first [] = refl
  none_first (c ∷ l) = rw (below_one c) (omega (arith, none_first l))

  -- different parents have no more children among the records than there are records after 0
  all_kids : (l : List ℕ) → ((p : ℕ) → times p l ≤ 1) → (j : ℕ) → total (λ c. length (below t 1 c (suc j))) l ≤ j
  all_kids l h zero = omega (arith, none_first l)
  all_kids l h (suc j) = omega (arith, one_more (suc j) l, all_kids l h j, h (cell t (suc j) 1))

  -- record 0 and its children are different
  once_with_root : (n p : ℕ) → times p (0 ∷ below t 1 0 n) ≤ 1
  once_with_root n p = go (ℕ_discrete p 0)
    where
      go : Dec (p ≡ 0) → times p (0 ∷ below t 1 0 n) ≤ 1
      go (yes q) = subst (λ x. times x (0 ∷ below t 1 0 n) ≤ 1) (sym q) (rw (times_root 0 n) (one_most (eqb 0 0)))
      go (no k) = let o : one (eqb p 0) ≡ 0 = ap one (ne_eqb p 0 k) in omega (arith, times_once 0 n p)

  -- a sum of numbers that are one larger
  total_suc : (w : ℕ → ℕ) (l : List ℕ) → total (λ c. 1 + w c) l ≡ length l + total w l
  total_suc w [] = omega arith
  total_suc w (c ∷ l) = omega (arith, total_suc w l)

  -- record 0, its children and their children are at most all records
  pub sizes : 0 < records t → total (λ c. 1 + length (kids t c)) (kids t 0) + 1 ≤ records t
  unfolding kids
  sizes h =
      let n = records t in
      let e : suc (n - 1) ≡ n = omega arith in
      let k : total (λ c. length (below t 1 c n)) (0 ∷ below t 1 0 n) ≤ n - 1 =
      subst (λ m. total (λ c. length (below t 1 c m)) (0 ∷ below t 1 0 n) ≤ n - 1) e (all_kids (0 ∷ below t 1 0 n) (once_with_root n) (n - 1)) in
      omega (arith, k, total_suc (λ c. length (below t 1 c n)) (below t 1 0 n))
