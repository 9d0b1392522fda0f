-- Laws of a name's place among names: that `position` finds it, that it tells names apart, and what a name stands for by its place.
use mathlib.Core.Path.{◌≡◌, refl, sym, ap, ◌∙◌}
use mathlib.Core.Bool.{Bool, true, false, cond, not}
use mathlib.Core.List.{List, [], ◌∷◌, map}
use Prim.Native.Nat.{ℕ, zero, suc, ◌+◌, ◌≤◌, ◌<◌}
use Prim.Native.String.{String}
use native.Mathlib.Omega.{arith}
use borrow.Author.Tests.{eq-eqb, eqb-true, ltb-false}
use lib.Dec.{eqb, ltb}
use lib.ListN.{length, get_or, length-map, get_or-eq_default}
use denote.Ref.{Bor}
use Rattle.std.specs.List.{position_or_len}
use Rattle.std.specs.Prelude.{find, position, Option, Some, None}
use Rattle.std.specs.Option.{unwrap_or, option_map}
use Rattle.text.specs.Order.{equal}
use Rattle.text.specs.Place.{place, meaning, meant}
use Rattle.text.specs.Utf8.{bytes}
use Rattle.text.proofs.Bools.{not_both}
use Rattle.text.proofs.Orders.{equal_is, equal_refl}

-- where a name stands among names that are lent, as `position` finds it
module _ (s : List ℕ) where
  position_len : (ns : List (Bor (List ℕ))) → position_or_len (λ w. equal s w.now) ns ≡ place (map (λ w. w.now) ns) s
  unfolding place
  position_len [] = refl
  position_len (w ∷ ns) = go (equal s w.now) (position_len ns)
    where
      go : (b : Bool) → position_or_len (λ w. equal s w.now) ns ≡ place (map (λ w. w.now) ns) s → cond (not b) (1 + position_or_len (λ w. equal s w.now) ns) 0 ≡ cond b 0 (suc (place (map (λ w. w.now) ns) s))
      go true e = refl
      go false e = rw e (omega arith)

  place_within : (ws : List (List ℕ)) → place ws s ≤ length ws
  unfolding place
  place_within [] = omega arith
  place_within (w ∷ ws) = go (equal s w) (place_within ws)
    where
      go : (b : Bool) → place ws s ≤ length ws → cond b 0 (suc (place ws s)) ≤ suc (length ws)
      go true h = omega arith
      go false h = omega (arith, h)

  -- and their number where it does not
  pub position_is : (ns : List (Bor (List ℕ))) {o : Option ℕ} {k : ℕ} → o ≡ position (λ w. equal s w.now) ns → k ≡ unwrap_or o (length ns) → k ≡ place (map (λ w. w.now) ns) s
  position_is ns {o} {k} e f = f ∙ rw (e, position_len ns) (go (ltb (place (map (λ w. w.now) ns) s) (length ns)) refl)
    where
      within : place (map (λ w. w.now) ns) s ≤ length ns
      within = rw (length-map) at (place_within (map (λ w. w.now) ns))

      go : (b : Bool) → ltb (place (map (λ w. w.now) ns) s) (length ns) ≡ b → unwrap_or (cond b (Some (place (map (λ w. w.now) ns) s)) None) (length ns) ≡ place (map (λ w. w.now) ns) s
      go true q = refl
      go false q = let n = ltb-false _ _ q in omega (arith, within, n)

-- two names at one place are the same
same_place : (ws : List (List ℕ)) (s v : List ℕ) → place ws s ≡ place ws v → place ws s < length ws → s ≡ v
unfolding place
same_place [] s v e h = absurd (omega arith)
same_place (w ∷ ws) s v e h = go (equal s w) (equal v w) refl refl e h (λ p q. same_place ws s v p q)
  where
    go : (a b : Bool) → equal s w ≡ a → equal v w ≡ b → cond a 0 (suc (place ws s)) ≡ cond b 0 (suc (place ws v)) → cond a 0 (suc (place ws s)) < suc (length ws) → (place ws s ≡ place ws v → place ws s < length ws → s ≡ v) → s ≡ v
    go true true p q e h r = equal_is s w p ∙ sym (equal_is v w q)
    go true false p q e h r = absurd (omega arith)
    go false true p q e h r = absurd (omega arith)
    go false false p q e h r = r (omega arith) (omega arith)

-- a name that stands at place k is the only one there
pub place_test : (ws : List (List ℕ)) (v : List ℕ) (k : ℕ) → place ws v ≡ k → k < length ws → (s : List ℕ) → eqb (place ws s) k ≡ equal s v
place_test ws v k e h s = go (eqb (place ws s) k) (equal s v) refl refl
  where
    go : (a b : Bool) → eqb (place ws s) k ≡ a → equal s v ≡ b → a ≡ b
    go true true p q = refl
    go false false p q = refl
    go true false p q =
        let i : place ws s ≡ k = eqb-true (place ws s) k p in
        let j : s ≡ v = same_place ws s v (i ∙ sym e) (omega arith) in
        absurd (not_both (rw j (equal_refl v)) q)
    go false true p q = absurd (not_both (eq-eqb (place ws s) k (ap (place ws) (equal_is s v q) ∙ e)) p)

-- a number is none of those below n, as the last arm of a `match` knows it
abbrev pub Apart : ℕ → ℕ → Type 0
Apart zero k = Unit {0}
Apart (suc n) k = Apart n k × (k ≡ n → ⊥)

apart_past : (n k : ℕ) → Apart n k → n ≤ k
apart_past zero k h = omega arith
apart_past (suc n) k h = let i = apart_past n k h.0 in let j = h.1 in omega arith

-- a name's place in a table of names: the meaning there, and past them
module _ {A : Type 0} (a : A) where
  meant_place : (cs : List (String × A)) (s : List ℕ) → get_or (map (λ c. c.1) cs) (place (map (λ c. bytes c.0) cs) s) a ≡ meant a cs s
  unfolding place meant
  meant_place [] s = refl
  meant_place (c ∷ cs) s = go (equal s (bytes c.0)) (meant_place cs s)
    where
      go : (b : Bool) → get_or (map (λ c. c.1) cs) (place (map (λ c. bytes c.0) cs) s) a ≡ meant a cs s → get_or (c.1 ∷ map (λ c. c.1) cs) (cond b 0 (suc (place (map (λ c. bytes c.0) cs) s))) a ≡ cond b c.1 (meant a cs s)
      go true e = refl
      go false e = e

  module _ (cs : List (String × A)) (s : List ℕ) {n : ℕ} (e : n ≡ place (map (λ c. bytes c.0) cs) s) where
    pub meant_at : (k : ℕ) → n ≡ k → get_or (map (λ c. c.1) cs) k a ≡ meant a cs s
    meant_at k q = rw (← q, e) (meant_place cs s)

    pub meant_none : Apart (length cs) n → a ≡ meant a cs s
    meant_none h = sym (get_or-eq_default (map (λ c. c.1) cs) a (rw length-map (apart_past (length cs) n h))) ∙ meant_at n refl

-- the same by a list of the code, whose meanings f gives
module _ {A B : Type 0} (f : B → A) (b : B) (s : List ℕ) where
  meant_each : (T : List (Bor (List ℕ) × B)) (cs : List (String × A)) → map {B = List ℕ × A} (λ w. (w.0.now, f w.1)) T ≡ map {B = List ℕ × A} (λ c. (bytes c.0, c.1)) cs → f (unwrap_or (option_map (λ w. w.1) (find (λ w. equal s w.0.now) T)) b) ≡ meant (f b) cs s
  unfolding meant
  meant_each [] [] e = refl
  meant_each [] (c ∷ cs) e = cc
  meant_each (w ∷ T) [] e = cc
  meant_each (w ∷ T) (c ∷ cs) e =
      let d : ◌≡◌ {A = List ℕ × A} (w.0.now, f w.1) (bytes c.0, c.1) = cc in
      let p : w.0.now ≡ bytes c.0 = ap (λ x. x.0) d in
      let q : f w.1 ≡ c.1 = ap (λ x. x.1) d in
      rw (← p, ← q) (go (equal s w.0.now) (meant_each T cs cc))
    where
      go : (t : Bool) → f (unwrap_or (option_map (λ w. w.1) (find (λ w. equal s w.0.now) T)) b) ≡ meant (f b) cs s → f (unwrap_or (option_map (λ w. w.1) (cond t (Some w) (find (λ w. equal s w.0.now) T))) b) ≡ cond t (f w.1) (meant (f b) cs s)
      go true h = refl
      go false h = h

  pub meant_by : (T : List (Bor (List ℕ) × B)) (cs : List (String × A)) {o : Option B} {r : B} → r ≡ unwrap_or o b → o ≡ meaning T s → map {B = List ℕ × A} (λ w. (w.0.now, f w.1)) T ≡ map {B = List ℕ × A} (λ c. (bytes c.0, c.1)) cs → f r ≡ meant (f b) cs s
  unfolding meaning
  meant_by T cs q p e = ap f (q ∙ ap (λ o. unwrap_or o b) p) ∙ meant_each T cs e
