-- The definition of an input line's fields is its spelling turned round.
use mathlib.Core.Path.{◌≡◌, refl, sym, ap, ◌∙◌}
use mathlib.Core.Bool.{Bool, true, false, not, ◌||◌}
use mathlib.Core.List.{List, [], ◌∷◌, ◌++◌, append_assoc, append-nil}
use mathlib.Core.Logic.{◌⊎◌, inl, inr}
use mathlib.Core.Option.{none, some, map, none-ne-some, some-injective, bind}
use Prim.Native.Nat.{ℕ}
use borrow.Author.Tests.{eqb-true, le-leb}
use lib.Dec.{eqb}
use lib.ListN.{length}
use Rattle.text.specs.Digits.{number}
use Rattle.text.proofs.Bools.{both}
use Rattle.inputs.specs.Line.{ahead, parted, or_none, fields_of, longest, line_of}
use Rattle.inputs.specs.Spelling.{mark, plain, all_plain, joined, Spelled, Formed}
use Rattle.inputs.proofs.Parting.{ahead_first, parted_empty, parted_space, parted_other, parted_feed, parted_after, parted_some}

-- a byte of a field is neither a space nor a line feed
unmarked : (b : ℕ) → not (mark b) ≡ true → (eqb b 0x20 ≡ false) × (eqb b 0x0A ≡ false)
unfolding mark
unmarked b e = go (eqb b 0x20) (eqb b 0x0A) e
  where
    go : (p q : Bool) → not (p || q) ≡ true → (p ≡ false) × (q ≡ false)
    go true q f = (cc, cc)
    go false true f = (refl, cc)
    go false false f = (refl, refl)

-- a field before a space, and one before the end
plain_space : (f s : List ℕ) → plain f ≡ true → parted (f ++ 0x20 ∷ s) ≡ map (λ (fs : List (List ℕ)). f ∷ fs) (parted s)
unfolding plain
plain_space [] s e = parted_space s
plain_space (b ∷ f) s e =
    let d = both (not (mark b)) (plain f) e in
    let u = unmarked b d.0 in
    parted_other b (f ++ 0x20 ∷ s) u.0 u.1 ∙ rw (plain_space f s d.1) (ahead_first b f (parted s))

plain_end : (f s : List ℕ) → plain f ≡ true → parted s ≡ some ([] ∷ []) → parted (f ++ s) ≡ some (f ∷ [])
unfolding plain ahead
plain_end [] s e q = q
plain_end (b ∷ f) s e q =
    let d = both (not (mark b)) (plain f) e in
    let u = unmarked b d.0 in
    parted_other b (f ++ s) u.0 u.1 ∙ ap (map (ahead b)) (plain_end f s d.1 q)

joined_parted : (f : List ℕ) (fs : List (List ℕ)) (s : List ℕ) → all_plain (f ∷ fs) ≡ true → parted s ≡ some ([] ∷ []) → parted (joined (f ∷ fs) ++ s) ≡ some (f ∷ fs)
unfolding all_plain joined
joined_parted f [] s e q = plain_end f s (both (plain f) true e).0 q
joined_parted f (g ∷ fs) s e q =
    let d = both (plain f) (all_plain (g ∷ fs)) e in
    rw (append_assoc) (plain_space f (joined (g ∷ fs) ++ s) d.0 ∙ rw (joined_parted g fs s d.1 q))

-- an input that is spelled so has these fields
pub spelled_parted : (f : List ℕ) (fs : List (List ℕ)) (s : List ℕ) → Spelled (f ∷ fs) s → parted s ≡ some (f ∷ fs)
spelled_parted f fs s k = go k.is
  where
    go : (s ≡ joined (f ∷ fs)) ⊎ (s ≡ joined (f ∷ fs) ++ 0x0A ∷ []) → parted s ≡ some (f ∷ fs)
    go (inl e) = ap parted (e ∙ sym (append-nil (joined (f ∷ fs)))) ∙ joined_parted f fs [] k.plain parted_empty
    go (inr e) = ap parted e ∙ joined_parted f fs (0x0A ∷ []) k.plain parted_feed

-- an input of the right form says its fields
pub formed_line : (m r c i s : List ℕ) → Formed m r c i s → line_of s ≡ some (record { mode = number 0 m; rules = number 0 r; currency = or_none c; identifier = or_none i })
unfolding fields_of line_of bind
formed_line m r c i s k =
    rw (le-leb (length s) longest k.short, spelled_parted m (r ∷ c ∷ i ∷ []) s k.spelled, k.mode, k.rules, k.currency, k.identifier)

-- one byte more at the front
module _ {g : List ℕ} {gs : List (List ℕ)} {s : List ℕ} (k : Spelled (g ∷ gs) s) where
  spelled_space : Spelled ([] ∷ g ∷ gs) (0x20 ∷ s)
  unfolding plain all_plain joined
  spelled_space = record { plain = k.plain; is = go k.is }
    where
      go : (s ≡ joined (g ∷ gs)) ⊎ (s ≡ joined (g ∷ gs) ++ 0x0A ∷ []) → (0x20 ∷ s ≡ 0x20 ∷ joined (g ∷ gs)) ⊎ (0x20 ∷ s ≡ 0x20 ∷ joined (g ∷ gs) ++ 0x0A ∷ [])
      go (inl e) = inl (ap (λ (t : List ℕ). 0x20 ∷ t) e)
      go (inr e) = inr (ap (λ (t : List ℕ). 0x20 ∷ t) e)

joined_more : (b : ℕ) (g : List ℕ) (gs : List (List ℕ)) → joined ((b ∷ g) ∷ gs) ≡ b ∷ joined (g ∷ gs)
unfolding joined
joined_more b g [] = refl
joined_more b g (h ∷ gs) = refl

module _ (b : ℕ) (e : eqb b 0x20 ≡ false) (f : eqb b 0x0A ≡ false) {g : List ℕ} {gs : List (List ℕ)} {s : List ℕ} (k : Spelled (g ∷ gs) s) where
  spelled_other : Spelled ((b ∷ g) ∷ gs) (b ∷ s)
  unfolding mark plain all_plain
  spelled_other = record { plain = rw (e, f) k.plain; is = rw (joined_more b g gs) (go k.is) }
    where
      go : (s ≡ joined (g ∷ gs)) ⊎ (s ≡ joined (g ∷ gs) ++ 0x0A ∷ []) → (b ∷ s ≡ b ∷ joined (g ∷ gs)) ⊎ (b ∷ s ≡ b ∷ joined (g ∷ gs) ++ 0x0A ∷ [])
      go (inl q) = inl (ap (λ (t : List ℕ). b ∷ t) q)
      go (inr q) = inr (ap (λ (t : List ℕ). b ∷ t) q)

-- the fields of the rest of an input
kept : (s : List ℕ) (h : List (List ℕ) → List (List ℕ)) (fs : List (List ℕ)) → map h (parted s) ≡ some fs → (g : List ℕ) × (gs : List (List ℕ)) × (parted s ≡ some (g ∷ gs)) × (h (g ∷ gs) ≡ fs)
kept s h fs e = go (parted_some s)
  where
    go : (parted s ≡ none) ⊎ ((g : List ℕ) × (gs : List (List ℕ)) × (parted s ≡ some (g ∷ gs))) → (g : List ℕ) × (gs : List (List ℕ)) × (parted s ≡ some (g ∷ gs)) × (h (g ∷ gs) ≡ fs)
    go (inl n) = absurd (none-ne-some fs (ap (map h) (sym n) ∙ e))
    go (inr r) = (r.0, r.1, r.2, some-injective (h (r.0 ∷ r.1)) fs (ap (map h) (sym r.2) ∙ e))

spelled_end : (fs : List (List ℕ)) → [] ∷ [] ≡ fs → (s : List ℕ) → (s ≡ []) ⊎ (s ≡ 0x0A ∷ []) → Spelled fs s
unfolding plain all_plain joined
spelled_end fs e s q = rw (← e) (record { plain = refl; is = q })

-- an input that has these fields is spelled so
pub parted_spelled : (s : List ℕ) (fs : List (List ℕ)) → parted s ≡ some fs → Spelled fs s
unfolding ahead
parted_spelled [] fs e = spelled_end fs (some-injective ([] ∷ []) fs (sym parted_empty ∙ e)) [] (inl refl)
parted_spelled (b ∷ s) fs e = go (eqb b 0x20) refl (eqb b 0x0A) refl (λ gs. parted_spelled s gs)
  where
    feed : (t : List ℕ) → parted (0x0A ∷ t) ≡ some fs → Spelled fs (0x0A ∷ t)
    feed [] q = spelled_end fs (some-injective ([] ∷ []) fs (sym parted_feed ∙ q)) (0x0A ∷ []) (inr refl)
    feed (c ∷ t) q = absurd (none-ne-some fs (sym (parted_after c t) ∙ q))

    go : (p : Bool) → eqb b 0x20 ≡ p → (q : Bool) → eqb b 0x0A ≡ q → ((gs : List (List ℕ)) → parted s ≡ some gs → Spelled gs s) → Spelled fs (b ∷ s)
    go true p q r ih =
        let z = eqb-true b 0x20 p in
        let k = kept s (λ (gs : List (List ℕ)). [] ∷ gs) fs (sym (parted_space s) ∙ ap (λ (x : ℕ). parted (x ∷ s)) (sym z) ∙ e) in
        rw (z, ← k.3) (spelled_space (ih (k.0 ∷ k.1) k.2))
    go false p true r ih =
        let z = eqb-true b 0x0A r in
        rw z (feed s (ap (λ (x : ℕ). parted (x ∷ s)) (sym z) ∙ e))
    go false p false r ih =
        let k = kept s (ahead b) fs (sym (parted_other b s p r) ∙ e) in
        rw (← k.3) (spelled_other b p r (ih (k.0 ∷ k.1) k.2))
