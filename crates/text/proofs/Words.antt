-- Laws of texts that are compared eight bytes at a time: what a word says of its bytes, and the turns of the loop.
use mathlib.Core.Path.{◌≡◌, refl, sym, ◌∙◌, ap}
use mathlib.Core.Bool.{Bool, true, false}
use mathlib.Core.List.{List, [], ◌∷◌, ◌++◌}
use Prim.Native.Nat.{ℕ, ◌+◌, ◌-◌, ◌≤◌, ◌<◌}
use native.Mathlib.Omega.{arith}
use native.Mathlib.Decide.{dec_lt}
use borrow.Author.Tests.{eq-eqb}
use lib.ListN.{length, get_or, take, drop, get_or-eq_default, length-take, length-drop, drop_of_length-le}
use lib.Seq.{drop-drop}
use Rattle.std.specs.Int.{w64, to_le_bytes}
use Rattle.std.proofs.lemmas.Nat.{le_bytes_8}
use Rattle.std.proofs.lemmas.List.{get_or-take, get_or-drop}
use Rattle.std.proofs.lemmas.Simd.{chunk-drop}
use Rattle.text.specs.Order.{equal}
use Rattle.text.specs.Word.{word_at}
use Rattle.text.proofs.Orders.{equal_is, equal_refl, differ}

-- words that differ
pub words_differ : (s t : List ℕ) (i : ℕ) {x y : ℕ} → x ≡ word_at s i → y ≡ word_at t i → (x ≡ y → ⊥) → false ≡ equal s t
words_differ s t i p q n = differ (λ (l : List ℕ). word_at l i) s t (λ e. n (p ∙ e ∙ sym q))

-- what both begin with
equal_behind : (u s t : List ℕ) → equal (u ++ s) (u ++ t) ≡ equal s t
unfolding equal
equal_behind [] s t = refl
equal_behind (x ∷ u) s t = rw (eq-eqb x x refl) (equal_behind u s t)

module _ (s t : List ℕ) (l : length s ≡ length t) (b : (i : ℕ) → get_or s i 0 < 256) (b' : (i : ℕ) → get_or t i 0 < 256) where
  -- what is left to compare from i on
  abbrev left : ℕ → Bool
  left i = equal (drop i s) (drop i t)

  bytes_of : (u : List ℕ) → ((i : ℕ) → get_or u i 0 < 256) → (i : ℕ) {x : ℕ} → i + 8 ≤ length u → x ≡ word_at u i → to_le_bytes w64 x ≡ take 8 (drop i u)
  bytes_of u f i {x} h p = le_bytes_8 (take 8 (drop i u)) x (rw (length-take, length-drop) (omega arith))
      (λ k. elim (dec_lt k 8) [
        | yes g ↦ rw (get_or-take 8 (drop i u) k 0 g, get_or-drop) (f (i + k))
        | no g ↦ rw (get_or-eq_default (take 8 (drop i u)) 0 {n = k} (let z = length-take 8 (drop i u) in omega arith)) (omega arith)
      ]) p

  -- a word that is the same
  pub word_on : (i : ℕ) {x y : ℕ} → i + 8 ≤ length s → x ≡ word_at s i → y ≡ word_at t i → x ≡ y → left i ≡ left (i + 8)
  word_on i {x} {y} h p q e =
      let d : take 8 (drop i s) ≡ take 8 (drop i t) = sym (bytes_of s b i h p) ∙ ap (to_le_bytes w64) e ∙ bytes_of t b' i (omega arith) q in
      rw (chunk-drop i 8 s, chunk-drop i 8 t, d) (equal_behind (take 8 (drop i t)) (drop (i + 8) s) (drop (i + 8) t))

  -- nothing is left but of the last word, which is the same
  pub words_end : (i last : ℕ) {x y : ℕ} → equal s t ≡ left i → last ≤ i → last + 8 ≡ length s → x ≡ word_at s last → y ≡ word_at t last → x ≡ y → true ≡ equal s t
  unfolding equal
  words_end i last r h z p q e =
      let m : left last ≡ true = word_on last (omega arith) p q e ∙ rw (drop_of_length-le s {i = last + 8} (omega arith), drop_of_length-le t {i = last + 8} (omega arith)) in
      let n : drop last s ≡ drop last t = equal_is (drop last s) (drop last t) m in
      let i_is : i ≡ last + (i - last) = omega arith in
      sym (r ∙ rw (i_is, ← drop-drop (i - last) last s, ← drop-drop (i - last) last t, n) (equal_refl (drop (i - last) (drop last t))))
