-- What a name makes of what it stands for.
use mathlib.Core.Path.{◌≡◌, refl, sym, ap, ◌∙◌}
use mathlib.Core.Bool.{Bool, true, false, cond, ◌||◌, true≢false}
use mathlib.Core.List.{List, [], ◌∷◌}
use Prim.Native.Nat.{ℕ}
use Prim.Native.String.{String}
use Rattle.text.specs.Order.{equal}
use Rattle.text.specs.Utf8.{bytes}
use Rattle.text.proofs.Orders.{equal_is}
use Rattle.settlement.specs.Kinds.{meant}
use Rattle.settlement.specs.Meetings.{is_listed}

-- what a name makes, by a test of names
module _ {A B : Type 0} (a : A) (g : A → B) (t : List ℕ → Bool) (v z : B) where
  -- each name of a list makes v where it passes, else z
  abbrev pub Each : List (String × A) → Type 0
  Each [] = Unit {0}
  Each (c ∷ cs) = (g c.1 ≡ cond (t (bytes c.0)) v z) × Each cs

  -- so does every name, if those do that the list does not have
  pub meant_each : (cs : List (String × A)) → Each cs → (s : List ℕ) → (is_listed cs s ≡ false → g a ≡ cond (t s) v z) → g (meant a cs s) ≡ cond (t s) v z
  unfolding meant is_listed
  meant_each [] e s h = h refl
  meant_each (c ∷ cs) e s h = go (equal s (bytes c.0)) refl (meant_each cs e.1 s) h
    where
      go : (b : Bool) → equal s (bytes c.0) ≡ b → ((is_listed cs s ≡ false → g a ≡ cond (t s) v z) → g (meant a cs s) ≡ cond (t s) v z) → (b || is_listed cs s ≡ false → g a ≡ cond (t s) v z) → g (cond b c.1 (meant a cs s)) ≡ cond (t s) v z
      go true q i k = e.0 ∙ ap (λ (w : List ℕ). cond (t w) v z) (sym (equal_is s (bytes c.0) q))
      go false q i k = i k

module _ {A B : Type 0} (a : A) (g : A → B) (cs : List (String × A)) (s : List ℕ) where
  -- one name of the list makes v, and no other does
  pub meant_one : (w : String) (v z : B) → Each a g (λ m. equal m (bytes w)) v z cs → is_listed cs (bytes w) ≡ true → g a ≡ z → g (meant a cs s) ≡ cond (equal s (bytes w)) v z
  meant_one w v z e l h = meant_each a g (λ m. equal m (bytes w)) v z cs e s (λ u. go (equal s (bytes w)) refl u)
    where
      go : (b : Bool) → equal s (bytes w) ≡ b → is_listed cs s ≡ false → g a ≡ cond b v z
      go true q u = absurd (true≢false (sym l ∙ ap (is_listed cs) (sym (equal_is s (bytes w) q)) ∙ u))
      go false q u = h

  -- all names of the list make v, and any other what a does
  pub meant_listed : (v : B) → Each a g (is_listed cs) v (g a) cs → g (meant a cs s) ≡ cond (is_listed cs s) v (g a)
  meant_listed v e = meant_each a g (is_listed cs) v (g a) cs e s (λ u. ap (λ (b : Bool). cond b v (g a)) (sym u))
