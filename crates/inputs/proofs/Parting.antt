-- The fields of an input, one after the other.
use mathlib.Core.Path.{◌≡◌, refl, sym, ap, subst, ◌∙◌}
use mathlib.Core.Bool.{Bool, true, false, cond, ◌||◌}
use mathlib.Core.List.{List, [], ◌∷◌}
use mathlib.Core.Option.{Option, none, some, map}
use mathlib.Core.Logic.{◌⊎◌, inl, inr}
use Prim.Native.Nat.{ℕ, suc, ◌+◌, ◌-◌}
use native.Mathlib.Omega.{arith}
use borrow.Author.Tests.{eqb-true}
use lib.Dec.{eqb}
use lib.ListN.{length, get_or, take, drop}
use lib.Seq.{get_or-drop, drop-drop}
use Rattle.text.specs.declared.span.Span.{Span}
use Rattle.text.specs.Span.{cut}
use Rattle.inputs.specs.Line.{ahead, split, one_line, parted}
use Rattle.inputs.specs.Places.{space_at, word, field_at, closing}
use Rattle.inputs.specs.Spelling.{mark}

-- a byte at the front of a line
line_ahead : (b : ℕ) (ls : List (List ℕ)) → one_line (ahead b ls) ≡ map (λ (l : List ℕ). b ∷ l) (one_line ls)
unfolding ahead one_line
line_ahead b [] = refl
line_ahead b (l ∷ []) = refl
line_ahead b (l ∷ [] ∷ []) = refl
line_ahead b (l ∷ [] ∷ m ∷ ls) = refl
line_ahead b (l ∷ (c ∷ m) ∷ ls) = refl

-- a space ends a field, and another byte is one more of the first
split_space : (o : Option (List ℕ)) → map (split 0x20) (map (λ (l : List ℕ). 0x20 ∷ l) o) ≡ map (λ (fs : List (List ℕ)). [] ∷ fs) (map (split 0x20) o)
unfolding split
split_space none = refl
split_space (some l) = refl

split_other : (b : ℕ) → eqb b 0x20 ≡ false → (o : Option (List ℕ)) → map (split 0x20) (map (λ (l : List ℕ). b ∷ l) o) ≡ map (ahead b) (map (split 0x20) o)
unfolding split
split_other b e none = refl
split_other b e (some l) = rw e

-- what the first byte of an input does to its fields
pub parted_empty : parted [] ≡ some ([] ∷ [])
unfolding parted one_line split
parted_empty = refl

pub parted_space : (s : List ℕ) → parted (0x20 ∷ s) ≡ map (λ (fs : List (List ℕ)). [] ∷ fs) (parted s)
unfolding parted split
parted_space s = rw (line_ahead 0x20 (split 0x0A s)) (split_space (one_line (split 0x0A s)))

pub parted_other : (b : ℕ) (s : List ℕ) → eqb b 0x20 ≡ false → eqb b 0x0A ≡ false → parted (b ∷ s) ≡ map (ahead b) (parted s)
unfolding parted split
parted_other b s e f = rw (f, line_ahead b (split 0x0A s)) (split_other b e (one_line (split 0x0A s)))

pub parted_feed : parted (0x0A ∷ []) ≡ some ([] ∷ [])
unfolding parted one_line split
parted_feed = refl

split_some : (p : ℕ) (s : List ℕ) → (f : List ℕ) × (fs : List (List ℕ)) × (split p s ≡ f ∷ fs)
unfolding split ahead
split_some p [] = ([], [], refl)
split_some p (b ∷ s) = go (eqb b p) (split_some p s)
  where
    go : (t : Bool) → ((f : List ℕ) × (fs : List (List ℕ)) × (split p s ≡ f ∷ fs)) → (f : List ℕ) × (fs : List (List ℕ)) × (cond t ([] ∷ split p s) (ahead b (split p s)) ≡ f ∷ fs)
    go true r = ([], split p s, refl)
    go false r = (b ∷ r.0, r.1, ap (ahead b) r.2)

pub parted_after : (b : ℕ) (s : List ℕ) → parted (0x0A ∷ b ∷ s) ≡ none
unfolding parted one_line split ahead
parted_after b s = go (eqb b 0x0A) (split_some 0x0A s)
  where
    go : (t : Bool) → ((f : List ℕ) × (fs : List (List ℕ)) × (split 0x0A s ≡ f ∷ fs)) → map (split 0x20) (one_line ([] ∷ cond t ([] ∷ split 0x0A s) (ahead b (split 0x0A s)))) ≡ none
    go true r = rw r.2
    go false r = rw r.2

-- an input has no line, or at least one field
pub parted_some : (s : List ℕ) → (parted s ≡ none) ⊎ ((f : List ℕ) × (fs : List (List ℕ)) × (parted s ≡ some (f ∷ fs)))
unfolding parted
parted_some s = go (one_line (split 0x0A s))
  where
    go : (o : Option (List ℕ)) → (map (split 0x20) o ≡ none) ⊎ ((f : List ℕ) × (fs : List (List ℕ)) × (map (split 0x20) o ≡ some (f ∷ fs)))
    go none = inl refl
    go (some l) = let r = split_some 0x20 l in inr (r.0, r.1, ap some r.2)

-- what stands behind a field w: a space, then other fields; the line's end; or a line feed that is not the last byte
pub data Behind (space close : Bool) (w : List ℕ) (here rest : Option (List (List ℕ))) : Type 0 where
  spaced : space ≡ true → close ≡ false → here ≡ map (λ (fs : List (List ℕ)). w ∷ fs) rest → Behind space close w here rest
  ended : space ≡ false → close ≡ true → here ≡ some (w ∷ []) → Behind space close w here rest
  broken : space ≡ false → close ≡ false → here ≡ none → Behind space close w here rest

-- behind the first field w of an input
abbrev pub Begins : List ℕ → List ℕ → Type 0
Begins s w = Behind (eqb (get_or s (length w) 0) 0x20) (closing (drop (length w) s)) w (parted s) (parted (drop (suc (length w)) s))

begins_feed : (s : List ℕ) → Begins (0x0A ∷ s) []
unfolding closing
begins_feed [] = ended refl refl parted_feed
begins_feed (b ∷ s) = broken refl refl (parted_after b s)

begins_space : (s : List ℕ) → Begins (0x20 ∷ s) []
unfolding closing
begins_space [] = spaced refl refl (parted_space [])
begins_space (b ∷ s) = spaced refl refl (parted_space (b ∷ s))

pub ahead_first : (b : ℕ) (w : List ℕ) (o : Option (List (List ℕ))) → map (ahead b) (map (λ (fs : List (List ℕ)). w ∷ fs) o) ≡ map (λ (fs : List (List ℕ)). (b ∷ w) ∷ fs) o
unfolding ahead
ahead_first b w none = refl
ahead_first b w (some fs) = refl

behind_more : (b : ℕ) (w : List ℕ) {p q : Bool} {o r : Option (List (List ℕ))} → Behind p q w o r → Behind p q (b ∷ w) (map (ahead b) o) r
unfolding ahead
behind_more b w {r = r} (spaced t c e) = spaced t c (ap (map (ahead b)) e ∙ ahead_first b w r)
behind_more b w (ended t c e) = ended t c (ap (map (ahead b)) e)
behind_more b w (broken t c e) = broken t c (ap (map (ahead b)) e)

begins_more : (b : ℕ) (s w : List ℕ) → eqb b 0x20 ≡ false → eqb b 0x0A ≡ false → Begins s w → Begins (b ∷ s) (b ∷ w)
begins_more b s w e f r = rw (parted_other b s e f) (behind_more b w r)

begins : (s : List ℕ) → Begins s (word s)
unfolding word mark closing
begins [] = ended refl refl parted_empty
begins (b ∷ s) = go (eqb b 0x20) (eqb b 0x0A) refl refl (begins s)
  where
    go : (p q : Bool) → eqb b 0x20 ≡ p → eqb b 0x0A ≡ q → Begins s (word s) → Begins (b ∷ s) (cond (p || q) [] (b ∷ word s))
    go true q e f r = subst (λ (x : ℕ). Begins (x ∷ s) []) (sym (eqb-true b 0x20 e)) (begins_space s)
    go false true e f r = subst (λ (x : ℕ). Begins (x ∷ s) []) (sym (eqb-true b 0x0A f)) (begins_feed s)
    go false false e f r = begins_more b s (word s) e f r

-- a field's bytes are those that the text begins with
word_taken : (s : List ℕ) → take (length (word s)) s ≡ word s
unfolding word
word_taken [] = refl
word_taken (b ∷ s) = go (mark b) (word_taken s)
  where
    go : (p : Bool) → take (length (word s)) s ≡ word s → take (length (cond p [] (b ∷ word s))) (b ∷ s) ≡ cond p [] (b ∷ word s)
    go true e = refl
    go false e = rw e

-- the field at a place, and what stands behind it
module _ (s : List ℕ) (i : ℕ) (p : Span) (e : p ≡ field_at s i) where
  field_end : p.end ≡ i + length (word (drop i s))
  unfolding field_at
  field_end = rw e

  field_bytes : cut p s ≡ word (drop i s)
  unfolding field_at cut
  field_bytes =
      let n : i + length (word (drop i s)) - i ≡ length (word (drop i s)) = omega arith in
      rw (e, n) (word_taken (drop i s))

  pub field_behind : Behind (space_at s p.end) (closing (drop p.end s)) (cut p s) (parted (drop i s)) (parted (drop (p.end + 1) s))
  unfolding space_at
  field_behind =
      let n : i + length (word (drop i s)) + 1 ≡ i + suc (length (word (drop i s))) = omega arith in
      rw (field_bytes, field_end, n, ← get_or-drop i s (length (word (drop i s))) 0, ← drop-drop (length (word (drop i s))) i s, ← drop-drop (suc (length (word (drop i s)))) i s)
      (begins (drop i s))
