-- Laws of the records under a parent: which they are, and their list from the front.
use mathlib.Core.Path.{◌≡◌, refl, sym, ap, ◌∙◌}
use mathlib.Core.Bool.{Bool, true, false, cond, ◌&&◌}
use mathlib.Core.List.{List, [], ◌∷◌, ◌++◌, append_assoc, append-nil}
use mathlib.Core.Option.{some}
use Prim.Native.Nat.{ℕ, zero, suc, ◌+◌, ◌-◌, ◌<◌}
use native.Mathlib.Omega.{arith}
use native.Mathlib.Nat.{add-zero}
use borrow.Author.Tests.{lt-ltb, eq-eqb, ltb-true, eqb-true}
use lib.Dec.{ltb, eqb}
use Rattle.text.specs.Options.{option_of}
use Rattle.text.proofs.Bools.{both}
use Rattle.std.specs.declared.option.Option as code
use Rattle.table.specs.Table.{records, cell, kin, below, named, first_of, first_named, kin_named, first_from}

module _ (t : List ℕ) (k : ℕ) where
  pub record Kin (i j : ℕ) : Type 0 where
    pub kind : cell t j 0 ≡ k
    pub parent : cell t j 1 ≡ i
    pub earlier : i < j

  pub kin_parts : (i j : ℕ) → kin t k i j ≡ true → Kin i j
  unfolding kin
  kin_parts i j e =
      let b = both (eqb (cell t j 0) k) (eqb (cell t j 1) i && ltb i j) e in
      let b' = both (eqb (cell t j 1) i) (ltb i j) b.1 in
      record { kind = eqb-true _ _ b.0; parent = eqb-true _ _ b'.0; earlier = ltb-true _ _ b'.1 }

  pub kin_is : (i j : ℕ) → Kin i j → kin t k i j ≡ true
  unfolding kin
  kin_is i j p = rw (eq-eqb _ _ p.kind, eq-eqb _ _ p.parent) (lt-ltb i j p.earlier)

  -- those under i among the m records from j on
  unfoldable pub from : ℕ → ℕ → ℕ → List ℕ
  from i j zero = []
  from i j (suc m) = cond (kin t k i j) (j ∷ from i (suc j) m) (from i (suc j) m)

  pub below_from : (i j m : ℕ) → below t k i (j + m) ≡ below t k i j ++ from i j m
  unfolding from below
  below_from i j zero = simp (add-zero, append-nil)
  below_from i j (suc m) = ap (below t k i) {x = j + suc m} {y = suc j + m} (omega arith) ∙ below_from i (suc j) m ∙ go (kin t k i j)
    where
      go : (b : Bool) → (below t k i j ++ cond b (j ∷ []) []) ++ from i (suc j) m ≡ below t k i j ++ cond b (j ∷ from i (suc j) m) (from i (suc j) m)
      go true = append_assoc (below t k i j) (j ∷ []) (from i (suc j) m)
      go false = simp append-nil

-- a record that is not of this kind under this parent
pub not_kin : (t : List ℕ) (k i j : ℕ) → (Kin t k i j → ⊥) → kin t k i j ≡ false
not_kin t k i j f = go (kin t k i j) refl
  where
    go : (b : Bool) → kin t k i j ≡ b → b ≡ false
    go true e = absurd (f (kin_parts t k i j e))
    go false e = refl

-- the first of a name, as a search over all records
module _ (t x : List ℕ) (k i : ℕ) (w : List ℕ) where
  first-from : (j m : ℕ) → first_of (named t x w) (from t k i j m) ≡ first_from (kin_named t x k i w) j m
  unfolding from first_of first_from kin_named
  first-from j zero = refl
  first-from j (suc m) = go (kin t k i j) (first-from (suc j) m)
    where
      go : (b : Bool) → first_of (named t x w) (from t k i (suc j) m) ≡ first_from (kin_named t x k i w) (suc j) m →
          first_of (named t x w) (cond b (j ∷ from t k i (suc j) m) (from t k i (suc j) m)) ≡ cond (b && named t x w j) (some j) (first_from (kin_named t x k i w) (suc j) m)
      go true r = rw r
      go false r = r

  pub first-named : (n : ℕ) → n ≡ records t → first_named t x k i w ≡ first_from (kin_named t x k i w) 0 (n - 0)
  unfolding first_named below
  first-named n e =
      ap (first_of (named t x w)) (ap (below t k i) {x = records t} {y = 0 + (n - 0)} (omega arith) ∙ below_from t k i 0 (n - 0)) ∙ first-from 0 (n - 0)

  -- the first record that passes is what `find` answers over all of them
  pub find_kin : (n : ℕ) → n ≡ records t → (r : code.Option ℕ) → option_of r ≡ first_from (kin_named t x k i w) 0 (n - 0) → option_of r ≡ first_named t x k i w
  find_kin n e r q = q ∙ sym (first-named n e)
