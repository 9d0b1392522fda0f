-- Laws of a text that stands in another, and the turns of the loop that looks for it.
use mathlib.Core.Path.{◌≡◌, refl, sym, ◌∙◌}
use mathlib.Core.Bool.{Bool, true, false}
use mathlib.Core.List.{List, [], ◌∷◌}
use Prim.Native.Nat.{ℕ, ◌+◌, ◌≤◌, ◌<◌}
use native.Mathlib.Omega.{arith}
use borrow.Author.Tests.{ne_eqb}
use native.Mathlib.Numerals.{add-one}
use lib.ListN.{length, drop, drop_of_length-le}
use lib.Seq.{drop-cons}
use Rattle.std.specs.Prelude.{◌==◌}
use Rattle.text.specs.Order.{equal}
use Rattle.text.specs.Span.{clipped}
use Rattle.codes.specs.Conformant.{begins, contains}

-- what `begins_at` compares
pub stands : (s : List ℕ) (i : ℕ) (needle : List ℕ) {r : Bool} {p : List ℕ} → p ≡ clipped s i (length needle) → r ≡ equal p needle → r ≡ begins needle (drop i s)
unfolding clipped begins
stands s i needle e q = q ∙ rw e

-- nothing is left but the empty text
empty_begins : (needle : List ℕ) → (length needle == 0) ≡ begins needle []
unfolding begins equal
empty_begins [] = refl
empty_begins (b ∷ needle) = ne_eqb (length (b ∷ needle)) 0 (λ e. omega arith)

-- the loop of `contains`, at i: needle stands there, it does not, the text has ended
module _ (s needle : List ℕ) (i : ℕ) (e : contains needle s ≡ contains needle (drop i s)) (r : Bool) where
  pub contains_here : r ≡ begins needle (drop i s) → i < length s → r ≡ true → true ≡ contains needle s
  unfolding contains
  contains_here q h t = sym (e ∙ rw (drop-cons s i 0, ← drop-cons s i 0, ← q, t))

  pub contains_on : r ≡ begins needle (drop i s) → i < length s → r ≡ false → contains needle s ≡ contains needle (drop (i + 1) s)
  unfolding contains
  contains_on q h t = e ∙ rw (add-one, drop-cons s i 0, ← drop-cons s i 0, ← q, t)

  pub contains_end : r ≡ (length needle == 0) → length s ≤ i → r ≡ contains needle s
  unfolding contains
  contains_end q h = q ∙ empty_begins needle ∙ sym (e ∙ rw (drop_of_length-le s h))
