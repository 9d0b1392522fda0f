-- A table that has the texts of numbers, the empty text before them, has the text of a number at its number.
use mathlib.Core.Path.{◌≡◌, refl, ◌∙◌}
use mathlib.Core.List.{List, [], ◌∷◌, map}
use mathlib.Core.Option.{Option-elim}
use Prim.Native.String.{String}
use Prim.Native.Nat.{ℕ, zero, suc}
use lib.ListN.{get_or}
use Rattle.text.specs.Utf8.{bytes}
use Rattle.names.specs.Numbered.{nth}
use Rattle.labels.specs.Text.{text_at}

module _ {A : Type 0} (f : A → String) where
  abbrev pub texts : List A → List (List ℕ)
  texts l = [] ∷ map (λ x. bytes (f x)) l

  found : (l : List A) (n : ℕ) → get_or (texts l) n [] ≡ text_at f l n
  unfolding text_at nth Option-elim
  found l zero = refl
  found [] (suc i) = refl
  found (x ∷ l) (suc zero) = refl
  found (x ∷ l) (suc (suc i)) = found l (suc i)

  -- a text of the table that was found
  pub text_found : (l : List A) (n : ℕ) {s : List ℕ} {ts : List (List ℕ)} → ts ≡ texts l → s ≡ get_or ts n [] → s ≡ text_at f l n
  text_found l n {s} e p = rw e at p ∙ found l n
