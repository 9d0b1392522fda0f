-- What is read of a text of the subset is characters, so that it is laid out in UTF-8.
use mathlib.Core.Path.{◌≡◌, refl}
use mathlib.Core.Bool.{Bool, true, false, cond, not, ◌&&◌, ◌||◌}
use mathlib.Core.List.{List, [], ◌∷◌, ◌++◌}
use Prim.Native.Nat.{ℕ, ◌≤◌}
use native.Mathlib.Omega.{arith}
use borrow.Author.Tests.{leb-true}
use lib.Dec.{leb, eqb}
use Rattle.text.specs.Range.{within}
use Rattle.text.proofs.Bools.{both, not_both}
use Rattle.text.proofs.Ranges.{within_range, within_yes}
use Rattle.characters.specs.Characters.{is_scalar, all_scalar, encode_all}
use Rattle.characters.specs.WhiteSpace.{in_ranges}
use Rattle.characters.proofs.Encoding.{encoded_utf8}
use Rattle.markup.specs.Classes.{is_char, is_space, name_start, name_char}
use Rattle.grammar.specs.Names.{Text, all, is_name, colons, behind_colon, local_name, recorded}
use Rattle.grammar.specs.Tree.{Attr, Forest, none, tree, then, Piece}
use Rattle.grammar.specs.Tokens.{Reference, decimal, hexadecimal, lt, gt, ampersand, apos, quot, value_char, flat, Value, no_value, and_plain, and_referred, Attributes, no_attributes, and_attribute, Section, no_section, and_letter, is_data}
use Rattle.grammar.specs.Grammar.{Sort, Spells, element, empty_element, nothing, and_char, and_reference, and_section, and_comment, and_element, Subset, document}
use Rattle.grammar.specs.Layout.{kept, shown}
use Rattle.grammar.proofs.Lists.{name_parts}
use Rattle.laid.specs.Readable.{ReadableAttrs, Readable, ScalarAttrs, Scalar}

-- a range of character numbers
unfoldable numbered : ℕ × ℕ → Bool
numbered r = leb r.1 0xD7FF || (leb 0xE000 r.0 && leb r.1 0x10FFFF)

unfoldable all_numbered : List (ℕ × ℕ) → Bool
all_numbered [] = true
all_numbered (r ∷ rs) = numbered r && all_numbered rs

in-range : (c a b : ℕ) → numbered (a, b) ≡ true → within c a b ≡ true → is_scalar c ≡ true
unfolding numbered is_scalar
in-range c a b e h = go (leb b 0xD7FF) refl e (within_range c a b h)
  where
    low : (p : Bool) → p ≡ true → (p || within c 0xE000 0x10FFFF) ≡ true
    low p e = rw e

    high : (p : Bool) → within c 0xE000 0x10FFFF ≡ true → (p || within c 0xE000 0x10FFFF) ≡ true
    high true e = refl
    high false e = e

    go : (p : Bool) → leb b 0xD7FF ≡ p → (p || (leb 0xE000 a && leb b 0x10FFFF)) ≡ true → (a ≤ c) × (c ≤ b) → (within c 0 0xD7FF || within c 0xE000 0x10FFFF) ≡ true
    go true q e r = let k = leb-true b 0xD7FF q in low (within c 0 0xD7FF) (within_yes c 0 0xD7FF (omega arith) (omega (arith, r, k)))
    go false q e r =
        let d = both (leb 0xE000 a) (leb b 0x10FFFF) e in
        let k = leb-true 0xE000 a d.0 in
        let m = leb-true b 0x10FFFF d.1 in
        high (within c 0 0xD7FF) (within_yes c 0xE000 0x10FFFF (omega (arith, r, k)) (omega (arith, r, m)))

in-ranges : (c : ℕ) (rs : List (ℕ × ℕ)) → all_numbered rs ≡ true → in_ranges c rs ≡ true → is_scalar c ≡ true
unfolding all_numbered in_ranges
in-ranges c [] e h = absurd (not_both h refl)
in-ranges c (r ∷ rs) e h =
    let d = both (numbered r) (all_numbered rs) e in
    go (within c r.0 r.1) refl h d.0 (in-ranges c rs d.1)
  where
    go : (p : Bool) → within c r.0 r.1 ≡ p → (p || in_ranges c rs) ≡ true → numbered r ≡ true → (in_ranges c rs ≡ true → is_scalar c ≡ true) → is_scalar c ≡ true
    go true q h d k = in-range c r.0 r.1 d q
    go false q h d k = k h

-- [2] Char, [4] NameStartChar and [4a] NameChar
char_scalar : (c : ℕ) → is_char c ≡ true → is_scalar c ≡ true
unfolding is_char all_numbered numbered
char_scalar c e = in-ranges c _ refl e

start_scalar : (c : ℕ) → name_start c ≡ true → is_scalar c ≡ true
unfolding name_start all_numbered numbered
start_scalar c e = in-ranges c _ refl e

name_scalar : (c : ℕ) → name_char c ≡ true → is_scalar c ≡ true
unfolding name_char all_numbered numbered
name_scalar c e = go (name_start c) refl e
  where
    go : (p : Bool) → name_start c ≡ p → (p || in_ranges c ((0x2D, 0x2E) ∷ (0x30, 0x39) ∷ (0xB7, 0xB7) ∷ (0x300, 0x36F) ∷ (0x203F, 0x2040) ∷ [])) ≡ true → is_scalar c ≡ true
    go true q h = start_scalar c q
    go false q h = in-ranges c _ refl h

-- texts of characters
append_scalar : (s t : Text) → all_scalar s ≡ true → all_scalar t ≡ true → all_scalar (s ++ t) ≡ true
unfolding all_scalar
append_scalar [] t e h = h
append_scalar (c ∷ s) t e h = let d = both (is_scalar c) (all_scalar s) e in rw d.0 (append_scalar s t d.1 h)

letter_scalar : (s : Text) (c : ℕ) → all_scalar s ≡ true → is_scalar c ≡ true → all_scalar (s ++ (c ∷ [])) ≡ true
unfolding all_scalar
letter_scalar s c e h = append_scalar s (c ∷ []) e (rw h)

all-scalar : (s : Text) → all name_char s ≡ true → all_scalar s ≡ true
unfolding all all_scalar
all-scalar [] e = refl
all-scalar (c ∷ s) e = let d = both (name_char c) (all name_char s) e in rw (name_scalar c d.0) (all-scalar s d.1)

is_name_scalar : (n : Text) → is_name n ≡ true → all_scalar n ≡ true
unfolding all_scalar
is_name_scalar [] e = refl
is_name_scalar (c ∷ s) e = let d = name_parts c s e in rw (start_scalar c d.0) (all-scalar s d.1)

-- [66] CharRef, [68] EntityRef
reference_scalar : {y : Text} {c : ℕ} → Reference y c → is_scalar c ≡ true
unfolding is_scalar within
reference_scalar (decimal c ds e h k) = char_scalar _ k
reference_scalar (hexadecimal c ds e h k) = char_scalar _ k
reference_scalar lt = refl
reference_scalar gt = refl
reference_scalar ampersand = refl
reference_scalar apos = refl
reference_scalar quot = refl

-- [14] CharData
data_scalar : (c : ℕ) → is_data c ≡ true → is_scalar c ≡ true
unfolding is_data
data_scalar c e = char_scalar c (both (not (eqb c 0x26)) (is_char c) (both (not (eqb c 0x3C)) (not (eqb c 0x26) && is_char c) e).1).1

-- [10] AttValue, and 3.3.3
value-char : (q c : ℕ) → value_char q c ≡ true → is_scalar c ≡ true
unfolding value_char is_data
value-char q c e = data_scalar c (both (not (eqb c q)) (is_data c) e).1

flat_scalar : (c : ℕ) → is_scalar c ≡ true → is_scalar (flat c) ≡ true
unfolding flat
flat_scalar c e = go (is_space c) (unfold is_scalar within in refl)
  where
    go : (p : Bool) → is_scalar 0x20 ≡ true → is_scalar (cond p 0x20 c) ≡ true
    go true h = h
    go false h = e

value_scalar : {q : ℕ} {x v : Text} → Value q x v → all_scalar v ≡ true
unfolding all_scalar
value_scalar no_value = refl
value_scalar {q} (and_plain {x} {v} c w e) = letter_scalar v (flat c) (value_scalar w) (flat_scalar c (value-char q c e))
value_scalar (and_referred {x} {v} {y} {c} w r) = letter_scalar v c (value_scalar w) (reference_scalar r)

-- (S Attribute)* of [40] and [44]
attrs_then : (zs : List Attr) (a : Attr) → ScalarAttrs zs → all_scalar a.name ≡ true → all_scalar a.value ≡ true → ScalarAttrs (zs ++ (a ∷ []))
attrs_then [] a s e h = (e, h, tt)
attrs_then (z ∷ zs) a s e h = (s.0, s.1, attrs_then zs a s.2 e h)

attributes_scalar : {x : Text} {zs : List Attr} → Attributes x zs → ScalarAttrs zs
attributes_scalar no_attributes = tt
attributes_scalar (and_attribute {x} {y} {v} {zs} s n l r q a e en ef el er eq w) = attrs_then zs (record { name = n; value = v }) (attributes_scalar a) (is_name_scalar n en) (value_scalar w)

-- [20] CData
section_scalar : {t : Text} → Section t → all_scalar t ≡ true
unfolding all_scalar
section_scalar no_section = refl
section_scalar (and_letter {x} c s e h) = letter_scalar x c (section_scalar s) (char_scalar c e)

then_scalar : (f g : Forest) → Scalar f → Scalar g → Scalar (then f g)
unfolding then
then_scalar none g a b = b
then_scalar (tree n zs t ks f) g a b = (a.0, a.1, a.2, a.3, then_scalar f g a.4 b)

-- [39] element and [43] content
record ScalarPiece (p : Piece) : Type 0 where
  pub text : all_scalar p.text ≡ true
  pub kids : Scalar p.kids

spells_scalar : {so : Sort} {d : ℕ} {x : Text} {p : Piece} → Spells so d x p → ScalarPiece p
unfolding all_scalar then
spells_scalar (element {d} {a} {x} {zs} {p} n l r e k el c er) =
    let s = spells_scalar c in
    record { text = refl; kids = (is_name_scalar n e, attributes_scalar k, s.text, s.kids, tt) }
spells_scalar (empty_element n l e k el) = record { text = refl; kids = (is_name_scalar n e, attributes_scalar k, refl, tt, tt) }
spells_scalar nothing = record { text = refl; kids = tt }
spells_scalar (and_char {d} {x} {p} c k e h) = let s = spells_scalar k in record { text = letter_scalar p.text c s.text (data_scalar c e); kids = then_scalar p.kids none s.kids tt }
spells_scalar (and_reference {d} {x} {y} {p} {c} k r) = let s = spells_scalar k in record { text = letter_scalar p.text c s.text (reference_scalar r); kids = then_scalar p.kids none s.kids tt }
spells_scalar (and_section {d} {x} {t} {p} k r) = let s = spells_scalar k in record { text = append_scalar p.text t s.text (section_scalar r); kids = then_scalar p.kids none s.kids tt }
spells_scalar (and_comment k r) = spells_scalar k
spells_scalar (and_element {d} {x} {y} {p} {q} k j) =
    let s = spells_scalar k in
    let u = spells_scalar j in
    record { text = append_scalar p.text q.text s.text u.text; kids = then_scalar p.kids q.kids s.kids u.kids }

-- every name, text and value that is read is of characters, whatever the text's bytes were
pub subset_scalar : {s : Text} {p : Piece} → Subset s p → Scalar p.kids
subset_scalar (document l x e z) = (spells_scalar e).kids

-- and in UTF-8 as it is laid out
behind_scalar : (n : Text) → all_scalar n ≡ true → all_scalar (behind_colon n) ≡ true
unfolding behind_colon all_scalar
behind_scalar [] e = refl
behind_scalar (c ∷ s) e = let d = both (is_scalar c) (all_scalar s) e in go (eqb c 0x3A) d.1 (behind_scalar s d.1)
  where
    go : (p : Bool) → all_scalar s ≡ true → all_scalar (behind_colon s) ≡ true → all_scalar (cond p s (behind_colon s)) ≡ true
    go true h k = h
    go false h k = k

local_scalar : (n : Text) → all_scalar n ≡ true → all_scalar (local_name n) ≡ true
unfolding local_name
local_scalar n e = go (eqb (colons n) 0)
  where
    go : (p : Bool) → all_scalar (cond p n (behind_colon n)) ≡ true
    go true = e
    go false = behind_scalar n e

kept_readable : (zs : List Attr) → ScalarAttrs zs → ReadableAttrs (kept zs)
unfolding kept
kept_readable [] s = tt
kept_readable (a ∷ zs) s = go (recorded a.name) (kept_readable zs s.2)
  where
    go : (p : Bool) → ReadableAttrs (kept zs) → ReadableAttrs (cond p (record { name = encode_all a.name; value = encode_all a.value } ∷ kept zs) (kept zs))
    go true r = (encoded_utf8 a.name s.0, encoded_utf8 a.value s.1, r)
    go false r = r

pub shown_readable : (f : Forest) → Scalar f → Readable (shown f)
unfolding shown
shown_readable none s = tt
shown_readable (tree n zs t ks f) s = (encoded_utf8 (local_name n) (local_scalar n s.0), encoded_utf8 t s.2, kept_readable zs s.1, shown_readable ks s.3, shown_readable f s.4)
