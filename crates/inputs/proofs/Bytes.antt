-- The bytes of an input at a place, and the loop that finds where a field ends.
use mathlib.Core.Path.{◌≡◌, refl, sym, ap, ◌∙◌}
use mathlib.Core.Bool.{Bool, true, false, cond, not, ◌&&◌}
use mathlib.Core.List.{List, [], ◌∷◌}
use Prim.Native.Nat.{ℕ, suc, ◌+◌, ◌-◌, ◌≤◌, ◌<◌, max}
use native.Mathlib.Omega.{arith}
use native.Mathlib.Decide.{dec_lt}
use borrow.Author.Tests.{lt-ltb, eqb-true}
use lib.Dec.{eqb}
use lib.ListN.{length, get_or, drop, get_or-eq_default, length-drop}
use Rattle.std.specs.List.{position_or_len}
use Rattle.std.specs.Prelude.{Some}
use Rattle.text.specs.declared.span.Span.{Span}
use Rattle.text.specs.Span.{cut}
use Rattle.text.specs.Order.{equal}
use Rattle.inputs.specs.Line.{filled, or_none}
use Rattle.inputs.specs.Places.{space_at, word, field_at, name_at, named_at}
use Rattle.inputs.specs.Spelling.{mark}

-- a currency or an identifier of two bytes or more
long_other : (b : List ℕ) → 2 ≤ length b → (filled b ≡ true) × (equal b (0x2D ∷ []) ≡ false)
unfolding filled equal
long_other [] h = absurd (omega arith)
long_other (x ∷ []) h = absurd (omega arith)
long_other (x ∷ y ∷ b) h = (lt-ltb 0 (length (x ∷ y ∷ b)) (omega arith), go (eqb x 0x2D))
  where
    go : (t : Bool) → (t && false) ≡ false
    go true = refl
    go false = refl

pub name_long : (s : List ℕ) (p : Span) {b : List ℕ} → b ≡ cut p s → 2 ≤ length b → Some p ≡ named_at s p
unfolding named_at name_at
name_long s p {b} e h = let o = long_other b h in rw (← e, o.0, o.1)

cut_empty : (s : List ℕ) (i : ℕ) → cut (record { start = i; end = i }) s ≡ []
unfolding cut
cut_empty s i = let z : i - i ≡ 0 = omega arith in rw z

-- the bytes at its place
pub name_bytes : (s : List ℕ) (p : Span) → cut (name_at s p) s ≡ or_none (cut p s)
unfolding name_at or_none
name_bytes s p = go (equal (cut p s) (0x2D ∷ []))
  where
    go : (t : Bool) → cut (cond t (record { start = p.start; end = p.start }) p) s ≡ cond t [] (cut p s)
    go true = cut_empty s p.start
    go false = refl

-- a space stands inside the text
pub space_inside : (s : List ℕ) (i : ℕ) → space_at s i ≡ true → i < length s
unfolding space_at
space_inside s i t =
    elim (dec_lt i (length s)) [ yes h ↦ h | no h ↦ absurd (let past : length s ≤ i = omega arith in omega (arith, eqb-true (get_or s i 0) 0x20 t, get_or-eq_default s 0 past)) ]

-- how long a word is
pub word_length : (s : List ℕ) → length (word s) ≡ position_or_len mark s
unfolding word
word_length [] = refl
word_length (b ∷ s) = go (mark b) (word_length s)
  where
    go : (t : Bool) → length (word s) ≡ position_or_len mark s → length (cond t [] (b ∷ word s)) ≡ cond (not t) (1 + position_or_len mark s) 0
    go true h = refl
    go false h = omega arith

word_short : (s : List ℕ) → length (word s) ≤ length s
unfolding word
word_short [] = omega arith
word_short (b ∷ s) = go (mark b) (word_short s)
  where
    go : (t : Bool) → length (word s) ≤ length s → length (cond t [] (b ∷ word s)) ≤ suc (length s)
    go true h = omega arith
    go false h = omega arith

-- the field that begins at i ends in the text
module _ (s : List ℕ) (i : ℕ) {r : List ℕ} (e : r ≡ drop i s) {n : ℕ} (q : n ≡ position_or_len mark r) where
  is_length : n ≡ length (word (drop i s))
  is_length = q ∙ ap (position_or_len mark) e ∙ sym (word_length (drop i s))

  pub field_inside : i + n ≤ max i (length s)
  field_inside = omega (arith, is_length, word_short (drop i s), length-drop i s)

  pub field_found : record { start = i; end = i + n } ≡ field_at s i
  unfolding field_at
  field_found = ap (λ (m : ℕ). record { start = i; end = i + m }) is_length
