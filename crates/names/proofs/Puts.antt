-- Laws of `put`. Only those that name a room ask for any.
use mathlib.Core.Path.{◌≡◌, refl, sym, ap, ◌∙◌}
use mathlib.Core.List.{List, [], ◌∷◌, ◌++◌}
use mathlib.Core.Logic.{⊎_elim}
use Prim.Native.Nat.{ℕ, zero, suc, ◌+◌, ◌-◌, ◌≤◌, ◌<◌, min}
use native.Mathlib.Nat.{add-zero, add-suc, suc-add}
use native.Mathlib.Numerals.{add-one}
use native.Mathlib.Omega.{arith}
use lib.ListN.{length, get_or, take, drop, set, length-set, take-append-drop, drop_of_length-le}
use lib.Seq.{paste, length-sets, sets-eq, take-suc, length-take-le, set_comm, set-set, set_out, get_or-set_same, get_or-set_other}
use borrow.Rule.Slice.PartMut.{put_mid}
use Rattle.std.proofs.lemmas.Bool.{cases_lt}
use Rattle.std.proofs.lemmas.List.{take-take}
use Rattle.std.proofs.lemmas.Slice.{put_mid-paste}
use Rattle.names.specs.Put.{put}

module _ {A : Type 0} where
  pub put_none : (l : List A) (at : ℕ) → put l at [] ≡ l
  unfolding put
  put_none l at = refl

  pub length_put : (l : List A) (at : ℕ) (vs : List A) → length (put l at vs) ≡ length l
  unfolding put
  length_put l at vs = length-sets l at vs

  -- one row after another
  pub put_put : (vs l ws : List A) (at : ℕ) → put (put l at vs) (at + length vs) ws ≡ put l at (vs ++ ws)
  unfolding put
  put_put [] l ws at = rw (add-zero)
  put_put (v ∷ vs) l ws at = rw (add-suc, ← suc-add) (put_put vs (set l at v) ws (suc at))

  -- with room: what stood before, the row, and what stood after
  pub put_eq : (l : List A) (at : ℕ) (vs : List A) → at + length vs ≤ length l → put l at vs ≡ take at l ++ vs ++ drop (at + length vs) l
  unfolding put
  put_eq l at vs h = sets-eq vs l at h

-- what stands elsewhere stays as it was, and what was put stands there
module _ {A : Type 0} where
  put_first : (l : List A) (at : ℕ) (v : A) (vs : List A) → put l at (v ∷ vs) ≡ put (set l at v) (suc at) vs
  unfolding put
  put_first l at v vs = refl

  pub put_before : (vs l : List A) (at i : ℕ) (d : A) → i < at → get_or (put l at vs) i d ≡ get_or l i d
  put_before [] l at i d h = rw put_none
  put_before (v ∷ vs) l at i d h = rw put_first (put_before vs (set l at v) (suc at) i d (omega arith) ∙ get_or-set_other l at i v d (λ e. omega arith))

  pub put_after : (vs l : List A) (at i : ℕ) (d : A) → at + length vs ≤ i → get_or (put l at vs) i d ≡ get_or l i d
  put_after [] l at i d h = rw put_none
  put_after (v ∷ vs) l at i d h = rw put_first (put_after vs (set l at v) (suc at) i d (omega arith) ∙ get_or-set_other l at i v d (λ e. omega arith))

  pub put_at : (vs l : List A) (at i : ℕ) (d : A) → i < length vs → at + i < length l → get_or (put l at vs) (at + i) d ≡ get_or vs i d
  put_at [] l at i d h k = absurd (omega arith)
  put_at (v ∷ vs) l at zero d h k =
      rw (put_first, add-zero) (put_before vs (set l at v) (suc at) at d (omega arith) ∙ get_or-set_same l at v d (omega arith))
  put_at (v ∷ vs) l at (suc i) d h k =
      rw (put_first, add-suc, ← suc-add) (put_at vs (set l at v) (suc at) i d (omega arith) (rw length-set (omega arith)))

-- a row's end is put again, by another that is as long
module _ {A : Type 0} where
  pub set_put : (os l : List A) (i k : ℕ) (v : A) → i < k → set (put l k os) i v ≡ put (set l i v) k os
  set_put [] l i k v h = rw (put_none l k, put_none (set l i v) k)
  set_put (o ∷ os) l i k v h =
      rw (put_first l k o os, put_first (set l i v) k o os) (set_put os (set l k o) i (suc k) v (omega arith) ∙ ap (λ (m : List A). put m (suc k) os) (set_comm l k i o v (λ e. omega arith)))

  pub put_again : (os ns l : List A) (k : ℕ) → length os ≤ length ns → put (put l k os) k ns ≡ put l k ns
  put_again [] ns l k e = ap (λ (m : List A). put m k ns) (put_none l k)
  put_again (o ∷ os) [] l k e = absurd (omega arith)
  put_again (o ∷ os) (n ∷ ns) l k e =
      ap (λ (m : List A). put m k (n ∷ ns)) (put_first l k o os)
      ∙ put_first (put (set l k o) (suc k) os) k n ns
      ∙ ap (λ (m : List A). put m (suc k) ns) (set_put os (set l k o) k (suc k) n (omega arith) ∙ ap (λ (m : List A). put m (suc k) os) (set-set l k o n))
      ∙ put_again os ns (set l k n) (suc k) (omega arith)
      ∙ sym (put_first l k n ns)

-- a loop that puts a row, at its number i: a turn
module _ {A : Type 0} (l : List A) (at : ℕ) (vs : List A) where
  pub put_turn : {m m' : List A} {i : ℕ} (d : A) → i < length vs → m ≡ put l at (take i vs) → m' ≡ set m (at + i) (get_or vs i d) → m' ≡ put l at (take (i + 1) vs)
  unfolding put
  put_turn {m} {m'} {i} d h e s =
      let n : length (take i vs) ≡ i = length-take-le i vs (omega arith) in
      s ∙ rw (e, add-one, take-suc vs i d) (rw n at (put_put (take i vs) l (get_or vs i d ∷ []) at))

-- what goes beyond the list is not put
module _ {A : Type 0} where
  pub put_outside : (vs l : List A) (at : ℕ) → length l ≤ at → put l at vs ≡ l
  put_outside [] l at h = put_none l at
  put_outside (v ∷ vs) l at h = put_first l at v vs ∙ rw (set_out l at v h) (put_outside vs l (suc at) (omega arith))

  -- at a place in the list, what is put are the elements for which there is room
  module _ (l : List A) (at : ℕ) (vs : List A) {n : ℕ} (h : at ≤ length l) (e : n ≡ min (length vs) (length l - at)) where
    pub put_some : put l at (take n vs) ≡ put l at vs
    put_some = sym (ap (put l at) (sym (take-append-drop n vs)) ∙ sym (put_put (take n vs) l (drop n vs) at) ∙ rw (length-take-le n vs (omega arith)) (⊎_elim more all (cases_lt n (length vs))))
      where
        more : n < length vs → put (put l at (take n vs)) (at + n) (drop n vs) ≡ put l at (take n vs)
        more f = put_outside (drop n vs) (put l at (take n vs)) (at + n) (rw length_put (omega arith))

        all : length vs ≤ n → put (put l at (take n vs)) (at + n) (drop n vs) ≡ put l at (take n vs)
        all f = rw (drop_of_length-le vs f) (put_none (put l at (take n vs)) (at + n))

    pasted : paste l at (take n vs) n ≡ put l at (take n vs)
    pasted =
        let m = length-take-le n vs (omega arith) in
        rw (take-take n n vs (omega arith), put_eq l at (take n vs) (omega arith), m)

  pub put_fitting : (l : List A) (at : ℕ) (vs : List A) {f n : ℕ} {ws : List A} → f ≡ min at (length l) → n ≡ min (length vs) (length l - f) → ws ≡ take n vs → put_mid f (f + n - f) l ws ≡ put l at vs
  put_fitting l at vs {f} {n} {ws} e g w =
      put_mid-paste f (f + n - f) l ws (take n vs) n w (omega arith) (sym (length-take-le n vs (omega arith))) ∙ pasted l f vs (omega arith) g ∙ put_some l f vs (omega arith) g ∙ ⊎_elim outside inside (cases_lt (length l) at)
    where
      outside : length l < at → put l f vs ≡ put l at vs
      outside h = put_outside vs l f (omega arith) ∙ sym (put_outside vs l at (omega arith))

      inside : at ≤ length l → put l f vs ≡ put l at vs
      inside h = ap (λ (i : ℕ). put l i vs) (omega arith)
