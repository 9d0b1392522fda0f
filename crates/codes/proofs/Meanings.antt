-- A code list of the code means what the list of the definitions does.
use mathlib.Core.Path.{◌≡◌, ap, ◌∙◌}
use mathlib.Core.Bool.{Bool, true, false, cond}
use mathlib.Core.List.{List, [], ◌∷◌, map}
use Prim.Native.Nat.{ℕ}
use Prim.Native.String.{String}
use denote.Ref.{Bor}
use Rattle.std.specs.Prelude.{find, Option, None, Some}
use Rattle.std.specs.Option.{option_map}
use Rattle.text.specs.Answer.{Answer, read, says}
use Rattle.text.specs.Order.{equal}
use Rattle.text.specs.Place.{meaning}
use Rattle.text.specs.Utf8.{bytes}
use Rattle.codes.specs.CodeList.{meaning as meaning_in}

-- n is the message of a text that the list does not have, and f says what an answer of the code does
module _ {A : Type 0} (n : ℕ) (f : Option A → Answer A) (none_is : f None ≡ says n) (some_is : (a : A) → f (Some a) ≡ read a) (s : List ℕ) where
  each : (T : List (Bor (List ℕ) × A)) (cs : List (String × A)) → map {B = List ℕ × A} (λ w. (w.0.now, w.1)) T ≡ map {B = List ℕ × A} (λ c. (bytes c.0, c.1)) cs → f (meaning T s) ≡ meaning_in n cs s
  unfolding meaning meaning_in
  each [] [] e = none_is
  each [] (c ∷ cs) e = cc
  each (w ∷ T) [] e = cc
  each (w ∷ T) (c ∷ cs) e =
      let d : ◌≡◌ {A = List ℕ × A} (w.0.now, w.1) (bytes c.0, c.1) = cc in
      let p : w.0.now ≡ bytes c.0 = ap (λ x. x.0) d in
      let q : w.1 ≡ c.1 = ap (λ x. x.1) d in
      rw (← p, ← q) (go (equal s w.0.now) (each T cs cc))
    where
      go : (t : Bool) → f (option_map (λ w. w.1) (find (λ w. equal s w.0.now) T)) ≡ meaning_in n cs s → f (option_map (λ w. w.1) (cond t (Some w) (find (λ w. equal s w.0.now) T))) ≡ cond t (read w.1) (meaning_in n cs s)
      go true h = some_is w.1
      go false h = h

  pub means : (T : List (Bor (List ℕ) × A)) (cs : List (String × A)) {o : Option A} → o ≡ meaning T s → map {B = List ℕ × A} (λ w. (w.0.now, w.1)) T ≡ map {B = List ℕ × A} (λ c. (bytes c.0, c.1)) cs → f o ≡ meaning_in n cs s
  means T cs p e = ap f p ∙ each T cs e
