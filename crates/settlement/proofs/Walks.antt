-- What an exchange of two neighbours does to a walk and to what it says.
use mathlib.Core.Path.{◌≡◌, refl, ap, sym, ◌∙◌, subst}
use mathlib.Core.Bool.{Bool, true, false, cond}
use mathlib.Core.List.Permᴰ
use mathlib.Core.List.{List, [], ◌∷◌, ◌++◌, append_assoc, append-nil, foldl, Permᴰ, Perm}
use mathlib.Core.Logic.{◌⊎◌, inl, inr}
use Rattle.settlement.specs.Walk.{said}
use Rattle.settlement.specs.Alike.{keep}

module _ {C S O : Type 0} (step : S → C → S) (emit : S → C → List O) where
  pub said_append : (s : S) (l r : List C) → said step emit s (l ++ r) ≡ said step emit s l ++ said step emit (foldl step s l) r
  unfolding said
  said_append s [] r = refl
  said_append s (c ∷ l) r =
      ap (λ (t : List O). emit s c ++ t) (said_append (step s c) l r)
      ∙ sym (append_assoc (emit s c) (said step emit (step s c) l) (said step emit (foldl step (step s c) l) r))

-- two lists that differ by an exchange of two neighbouring blocks p and q
pub record Crossed {O : Type 0} (p q l r : List O) : Type 0 where
  pub before : List O
  pub after : List O
  pub left : l ≡ before ++ (p ++ (q ++ after))
  pub right : r ≡ before ++ (q ++ (p ++ after))

-- two children that may change places, whatever the state is
pub record Apart {C S : Type 0} (step : S → C → S) (x y : C) : Type 0 where
  pub state : (s : S) → step (step s x) y ≡ step (step s y) x

-- neither changes what the other says
pub record Silent {C S O : Type 0} (step : S → C → S) (emit : S → C → List O) (x y : C) : Type 0 where
  pub fst : (s : S) → emit (step s y) x ≡ emit s x
  pub snd : (s : S) → emit (step s x) y ≡ emit s y

module _ {C S O : Type 0} (step : S → C → S) (emit : S → C → List O) (x y : C) (a : Apart step x y) where
  pub run_swap : (s : S) (pre post : List C) → foldl step s (pre ++ x ∷ y ∷ post) ≡ foldl step s (pre ++ y ∷ x ∷ post)
  run_swap s [] post = ap (λ (t : S). foldl step t post) (a.state s)
  run_swap s (c ∷ pre) post = run_swap (step s c) pre post

  pub crossed : Silent step emit x y → (s : S) (pre post : List C) → Crossed (emit (foldl step s pre) x) (emit (foldl step s pre) y) (said step emit s (pre ++ x ∷ y ∷ post)) (said step emit s (pre ++ y ∷ x ∷ post))
  unfolding said
  crossed si s pre post =
      record {
        before = said step emit s pre;
        after = said step emit (step (step (foldl step s pre) x) y) post;
        left = said_append step emit s pre (x ∷ y ∷ post) ∙ rw (si.snd (foldl step s pre));
        right = said_append step emit s pre (y ∷ x ∷ post) ∙ rw (si.fst (foldl step s pre), ← (a.state (foldl step s pre)));
      }

module _ {A : Type 0} where
  -- blocks that change places are a permutation
  perm_blocks : (p q : List A) → Permᴰ (p ++ q) (q ++ p)
  perm_blocks [] q = subst (λ (l : List A). Permᴰ q l) (sym (append-nil q)) (Permᴰ.refl q)
  perm_blocks (a ∷ p) q = Permᴰ.trans (Permᴰ.cons refl (perm_blocks p q)) (Permᴰ.symm (Permᴰ.middle a q p))

  pub crossed_perm : {p q l r : List A} → Crossed p q l r → Perm l r
  crossed_perm {p} {q} c =
      rw (c.left, c.right)
      (∣ Permᴰ.append_left c.before (rw (← (append_assoc p q c.after), ← (append_assoc q p c.after)) (Permᴰ.append_right c.after (perm_blocks p q))) ∣₁)

  pub keep_append : (t : A → Bool) (l r : List A) → keep t (l ++ r) ≡ keep t l ++ keep t r
  unfolding keep
  keep_append t [] r = refl
  keep_append t (a ∷ l) r = go (t a) (keep_append t l r)
    where
      go : (b : Bool) → keep t (l ++ r) ≡ keep t l ++ keep t r → cond b (a ∷ keep t (l ++ r)) (keep t (l ++ r)) ≡ cond b (a ∷ keep t l) (keep t l) ++ keep t r
      go true h = ap (λ (m : List A). a ∷ m) h
      go false h = h

  -- where one of the blocks has none that passes, the order of those that do stays
  pub crossed_keep : (t : A → Bool) {p q l r : List A} → Crossed p q l r → (keep t p ≡ []) ⊎ (keep t q ≡ []) → keep t l ≡ keep t r
  crossed_keep t c (inl e) = rw (c.left, c.right) (simp (keep_append, e))
  crossed_keep t c (inr e) = rw (c.left, c.right) (simp (keep_append, e))
