-- A list of the code in which a name is looked up means what the list of the definitions does.
use mathlib.Core.Path.{◌≡◌, refl, ap, ◌∙◌}
use mathlib.Core.Bool.{Bool, true, false, cond}
use mathlib.Core.List.{List, [], ◌∷◌, map}
use Prim.Native.Nat.{ℕ}
use Prim.Native.String.{String}
use denote.Ref.{Bor}
use Rattle.std.specs.Prelude.{find, Option, None, Some}
use Rattle.std.specs.Option.{option_map}
use Rattle.text.specs.Order.{equal}
use Rattle.text.specs.Place.{meaning, meant}
use Rattle.text.specs.Utf8.{bytes}

module _ {A : Type 0} (s : List ℕ) where
  each : (T : List (Bor (List ℕ) × A)) (cs : List (String × Option A)) → map {B = List ℕ × Option A} (λ w. (w.0.now, Some w.1)) T ≡ map {B = List ℕ × Option A} (λ c. (bytes c.0, c.1)) cs → meaning T s ≡ meant None cs s
  unfolding meaning meant
  each [] [] e = refl
  each [] (c ∷ cs) e = cc
  each (w ∷ T) [] e = cc
  each (w ∷ T) (c ∷ cs) e =
      let d : ◌≡◌ {A = List ℕ × Option A} (w.0.now, Some w.1) (bytes c.0, c.1) = cc in
      let p : w.0.now ≡ bytes c.0 = ap (λ x. x.0) d in
      let q : Some w.1 ≡ c.1 = ap (λ x. x.1) d in
      rw (← p, ← q) (go (equal s w.0.now) (each T cs cc))
    where
      go : (t : Bool) → option_map (λ w. w.1) (find (λ w. equal s w.0.now) T) ≡ meant None cs s → option_map (λ w. w.1) (cond t (Some w) (find (λ w. equal s w.0.now) T)) ≡ cond t (Some w.1) (meant None cs s)
      go true h = refl
      go false h = h

  pub meant_by : (T : List (Bor (List ℕ) × A)) (cs : List (String × Option A)) {o : Option A} → o ≡ meaning T s → map {B = List ℕ × Option A} (λ w. (w.0.now, Some w.1)) T ≡ map {B = List ℕ × Option A} (λ c. (bytes c.0, c.1)) cs → o ≡ meant None cs s
  meant_by T cs p e = p ∙ each T cs e
