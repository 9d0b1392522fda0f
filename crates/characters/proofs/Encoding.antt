-- UTF-8 is RFC 3629's encoder turned round: every encoded text is UTF-8 (`encoded_utf8`), and every UTF-8 text is one (`utf8_encoded`).
use mathlib.Core.Path.{◌≡◌, refl, sym, ◌∙◌, ap}
use mathlib.Core.Bool.{Bool, true, false, cond, ◌||◌, ◌&&◌}
use mathlib.Core.List.{List, [], ◌∷◌, ◌++◌, map}
use Prim.Native.Nat.{ℕ, zero, suc, ◌+◌, ◌*◌, ◌/◌, ◌%◌, ◌≤◌, ◌<◌}
use native.Mathlib.Omega.{arith}
use native.Mathlib.Nat.{zero-add}
use native.Mathlib.Decide.{dec_le}
use borrow.Author.Tests.{le-leb, lt-leb, lt-ltb, le-ltb}
use lib.Dec.{leb, ltb}
use denote.Ref.{Bor}
use lib.ListN.{length, get_or, drop, length-drop, drop_of_length-le}
use lib.Seq.{drop-cons, drop-drop, drop-append_seam}
use Rattle.std.proofs.Math.Utf8.{scalar as scalar_code, scalars}
use Rattle.std.specs.Char.{encode_utf8}
use Rattle.std.specs.Str.{IsUtf8, encode_utf8_all}
use Rattle.std.specs.Result.{MatchResult, is_ok}
use Rattle.std.specs.Prelude.{Result, Ok, Err}
use Rattle.text.specs.Range.{within}
use Rattle.text.specs.Utf8.{encode}
use Rattle.text.proofs.Bools.{both, not_both}
use Rattle.text.proofs.Ranges.{within_range, within_yes, within_above}
use Rattle.characters.specs.Characters.{Char, Bad, Point, is_scalar, all_scalar, encode_all, tail, scalar, two, three, four, char_of, front, size, chars, all_good, utf8}
use Rattle.characters.proofs.Characters.{Shortest, Form, one, two_form, three_form, four_form, form_of, tail_range, Whole, front_whole, chars_at, turn_chars, turn}

-- the octets of the table: a first one, and those that follow it
tail_yes : (x : ℕ) → x < 64 → tail (0x80 + x) ≡ true
unfolding tail
tail_yes x h = within_yes (0x80 + x) 0x80 0xBF (omega arith) (omega arith)

scalar_yes : (least c n : ℕ) → least ≤ c → is_scalar c ≡ true → scalar least c n ≡ Point c n
unfolding scalar
scalar_yes least c n h e = rw (le-leb least c h, e)

at_most : (c : ℕ) → is_scalar c ≡ true → c ≤ 0x10FFFF
unfolding is_scalar
at_most c e = go (within c 0 0xD7FF) refl e
  where
    go : (p : Bool) → within c 0 0xD7FF ≡ p → (p || within c 0xE000 0x10FFFF) ≡ true → c ≤ 0x10FFFF
    go true q f = omega (arith, within_range c 0 0xD7FF q)
    go false q f = (within_range c 0xE000 0x10FFFF f).1

-- taking a number's x bits apart and putting them together
low_bits : (x : ℕ) → (0x80 + x % 64) % 64 ≡ x % 64
low_bits x = omega arith

low_three : (x : ℕ) → x < 8 → (0xF0 + x) % 8 ≡ x
low_three x h = omega arith

join₀ : (c : ℕ) → c / 64 * 64 + c % 64 ≡ c
join₀ c = omega arith

join₁ : (c : ℕ) → c / 4096 * 64 + c / 64 % 64 ≡ c / 64
join₁ c = omega arith

join₂ : (c : ℕ) → c / 262144 * 64 + c / 4096 % 64 ≡ c / 4096
join₂ c = omega arith

below_8 : (c : ℕ) → c ≤ 0x10FFFF → c / 262144 < 8
below_8 c h = omega arith

-- a character's octets are read as it, form by form
module _ (c : ℕ) (e : is_scalar c ≡ true) where
  read_one : (b d f : ℕ) → c ≤ 0x7F → char_of c b d f ≡ Point c 1
  unfolding char_of
  read_one b d f h = rw (within_yes c 0 0x7F (omega arith) h)

  read_two : (d f : ℕ) → 0x80 ≤ c → c ≤ 0x7FF → char_of (0xC0 + c / 64) (0x80 + c % 64) d f ≡ Point c 2
  unfolding char_of two
  read_two d f h h' =
      let a = 0xC0 + c / 64 in
      let v : a % 32 * 64 + (0x80 + c % 64) % 64 ≡ c = omega arith in
      rw (within_above a 0 0x7F (omega arith), within_yes a 0xC0 0xDF (omega arith) (omega arith), tail_yes (c % 64) (omega arith), v) (scalar_yes 0x80 c 2 h e)

  read_three : (f : ℕ) → 0x800 ≤ c → c ≤ 0xFFFF → char_of (0xE0 + c / 4096) (0x80 + c / 64 % 64) (0x80 + c % 64) f ≡ Point c 3
  unfolding char_of three
  read_three f h h' =
      let a = 0xE0 + c / 4096 in
      let v : (a % 16 * 64 + (0x80 + c / 64 % 64) % 64) * 64 + (0x80 + c % 64) % 64 ≡ c = omega arith in
      rw (within_above a 0 0x7F (omega arith), within_above a 0xC0 0xDF (omega arith), within_yes a 0xE0 0xEF (omega arith) (omega arith), tail_yes (c / 64 % 64) (omega arith), tail_yes (c % 64) (omega arith), v)
      (scalar_yes 0x800 c 3 h e)

  read_four : 0x10000 ≤ c → char_of (0xF0 + c / 262144) (0x80 + c / 4096 % 64) (0x80 + c / 64 % 64) (0x80 + c % 64) ≡ Point c 4
  unfolding char_of four
  read_four h =
      let a = 0xF0 + c / 262144 in
      let q = below_8 c (at_most c e) in
      let v : ((a % 8 * 64 + (0x80 + c / 4096 % 64) % 64) * 64 + (0x80 + c / 64 % 64) % 64) * 64 + (0x80 + c % 64) % 64 ≡ c =
      rw (low_three (c / 262144) q, low_bits (c / 4096), low_bits (c / 64), low_bits c, join₂, join₁, join₀) in
      rw (within_above a 0 0x7F (omega arith), within_above a 0xC0 0xDF (omega arith), within_above a 0xE0 0xEF (omega arith), within_yes a 0xF0 0xF7 (omega arith) (omega arith), tail_yes (c / 4096 % 64) (omega arith), tail_yes (c / 64 % 64) (omega arith), tail_yes (c % 64) (omega arith), v)
      (scalar_yes 0x10000 c 4 h e)

  pub front_encode : (s : List ℕ) → front (encode c ++ s) ≡ Point c (length (encode c))
  unfolding front encode
  front_encode s =
      elim (dec_le c 0x7F) [
        | yes h₁ ↦ rw (le-leb c 0x7F h₁) (read_one _ _ _ h₁)
        | no h₁ ↦ elim (dec_le c 0x7FF) [
          | yes h₂ ↦ rw (lt-leb c 0x7F (omega arith), le-leb c 0x7FF h₂) (read_two _ _ (omega arith) h₂)
          | no h₂ ↦ elim (dec_le c 0xFFFF) [
            | yes h₃ ↦ rw (lt-leb c 0x7F (omega arith), lt-leb c 0x7FF (omega arith), le-leb c 0xFFFF h₃) (read_three _ (omega arith) h₃)
            | no h₃ ↦ rw (lt-leb c 0x7F (omega arith), lt-leb c 0x7FF (omega arith), lt-leb c 0xFFFF (omega arith)) (read_four (omega arith))
          ]
        ]
      ]

-- the octets that were read are those of the character, form by form
write_two : (a b v : ℕ) → 0xC0 ≤ a → a ≤ 0xDF → 0x80 ≤ b → b ≤ 0xBF → v ≡ a % 32 * 64 + b % 64 → 0x80 ≤ v → encode v ≡ a ∷ b ∷ []
unfolding encode
write_two a b v h₁ h₂ h₃ h₄ e l =
    let p : 0xC0 + v / 64 ≡ a = omega arith in
    let q : 0x80 + v % 64 ≡ b = omega arith in
    rw (lt-leb v 0x7F l, le-leb v 0x7FF (omega arith), p, q)

write_three : (a b c v : ℕ) → 0xE0 ≤ a → a ≤ 0xEF → 0x80 ≤ b → b ≤ 0xBF → 0x80 ≤ c → c ≤ 0xBF → v ≡ (a % 16 * 64 + b % 64) * 64 + c % 64 → 0x800 ≤ v → encode v ≡ a ∷ b ∷ c ∷ []
unfolding encode
write_three a b c v h₁ h₂ h₃ h₄ h₅ h₆ e l =
    let p : 0xE0 + v / 4096 ≡ a = omega arith in
    let q : 0x80 + v / 64 % 64 ≡ b = omega arith in
    let r : 0x80 + v % 64 ≡ c = omega arith in
    rw (lt-leb v 0x7F (omega arith), lt-leb v 0x7FF l, le-leb v 0xFFFF (omega arith), p, q, r)

div_64 : (x y : ℕ) → (x * 64 + y % 64) / 64 ≡ x
div_64 x y = omega arith

mod_64 : (x y : ℕ) → (x * 64 + y % 64) % 64 ≡ y % 64
mod_64 x y = omega arith

div_4096 : (v : ℕ) → v / 4096 ≡ v / 64 / 64
div_4096 v = omega arith

div_262144 : (v : ℕ) → v / 262144 ≡ v / 64 / 64 / 64
div_262144 v = omega arith

top_byte : (a : ℕ) → 0xF0 ≤ a → a ≤ 0xF7 → 0xF0 + a % 8 ≡ a
top_byte a h h' = omega arith

tail_byte : (b : ℕ) → 0x80 ≤ b → b ≤ 0xBF → 0x80 + b % 64 ≡ b
tail_byte b h h' = omega arith

write_four :
    (a b c d v : ℕ) → 0xF0 ≤ a → a ≤ 0xF7 → 0x80 ≤ b → b ≤ 0xBF → 0x80 ≤ c → c ≤ 0xBF → 0x80 ≤ d → d ≤ 0xBF → v ≡ ((a % 8 * 64 + b % 64) * 64 + c % 64) * 64 + d % 64 → 0x10000 ≤ v →
    encode v ≡ a ∷ b ∷ c ∷ d ∷ []
unfolding encode
write_four a b c d v h₁ h₂ h₃ h₄ h₅ h₆ h₇ h₈ e l =
    rw (lt-leb v 0x7F (omega arith), lt-leb v 0x7FF (omega arith), lt-leb v 0xFFFF l)
    (rw (div_4096 v, div_262144 v, e)
    (simp (div_64, mod_64, top_byte a h₁ h₂, tail_byte b h₃ h₄, tail_byte c h₅ h₆, tail_byte d h₇ h₈)))

-- the octets at the front of a list
front_one : (s : List ℕ) → 1 ≤ length s → s ≡ get_or s 0 0 ∷ drop 1 s
front_one s h = drop-cons s 0 0 h

front_two : (s : List ℕ) → 2 ≤ length s → s ≡ get_or s 0 0 ∷ get_or s 1 0 ∷ drop 2 s
front_two s h = front_one s (omega arith) ∙ ap (λ (l : List ℕ). get_or s 0 0 ∷ l) (drop-cons s 1 0 h)

front_three : (s : List ℕ) → 3 ≤ length s → s ≡ get_or s 0 0 ∷ get_or s 1 0 ∷ get_or s 2 0 ∷ drop 3 s
front_three s h = front_two s (omega arith) ∙ ap (λ (l : List ℕ). get_or s 0 0 ∷ get_or s 1 0 ∷ l) (drop-cons s 2 0 h)

front_four : (s : List ℕ) → 4 ≤ length s → s ≡ get_or s 0 0 ∷ get_or s 1 0 ∷ get_or s 2 0 ∷ get_or s 3 0 ∷ drop 4 s
front_four s h = front_three s (omega arith) ∙ ap (λ (l : List ℕ). get_or s 0 0 ∷ get_or s 1 0 ∷ get_or s 2 0 ∷ l) (drop-cons s 3 0 h)

small : (a : ℕ) → a ≤ 0x7F → (is_scalar a ≡ true) × (encode a ≡ a ∷ [])
unfolding is_scalar encode
small a h = (rw (within_yes a 0 0xD7FF (omega arith) (omega arith)), rw (le-leb a 0x7F h))

-- what is read as a character is a character number's octets
module _ (s : List ℕ) (c m : ℕ) (w : Whole s m) where
  found : (n : ℕ) → m ≡ n → {least v : ℕ} → Shortest least v c → (p : List ℕ) → encode v ≡ p → (n ≤ length s → s ≡ p ++ drop n s) → (is_scalar c ≡ true) × (s ≡ encode c ++ drop m s)
  found n e k p q f = (rw k.is k.fine, f (omega (arith, w.fits)) ∙ rw (k.is, q, e))

  decoded : Form (get_or s 0 0) (get_or s 1 0) (get_or s 2 0) (get_or s 3 0) c m → (is_scalar c ≡ true) × (s ≡ encode c ++ drop m s)
  decoded (one h e n) =
      let k = small (get_or s 0 0) h in
      (rw e k.0, front_one s (omega (arith, w.fits)) ∙ rw (e, n, k.1))
  decoded (two_form h h' t k n) =
      let r = tail_range (get_or s 1 0) t in
      found 2 n k _ (write_two (get_or s 0 0) (get_or s 1 0) _ h h' r.0 r.1 refl k.least_is) (front_two s)
  decoded (three_form h h' t t' k n) =
      let r = tail_range (get_or s 1 0) t in
      let r' = tail_range (get_or s 2 0) t' in
      found 3 n k _ (write_three (get_or s 0 0) (get_or s 1 0) (get_or s 2 0) _ h h' r.0 r.1 r'.0 r'.1 refl k.least_is) (front_three s)
  decoded (four_form h h' t t' t'' k n) =
      let r = tail_range (get_or s 1 0) t in
      let r' = tail_range (get_or s 2 0) t' in
      let r'' = tail_range (get_or s 3 0) t'' in
      found 4 n k _ (write_four (get_or s 0 0) (get_or s 1 0) (get_or s 2 0) (get_or s 3 0) _ h h' r.0 r.1 r'.0 r'.1 r''.0 r''.1 refl k.least_is) (front_four s)

front_decode : (s : List ℕ) (c m : ℕ) → 0 < length s → front s ≡ Point c m → (is_scalar c ≡ true) × (s ≡ encode c ++ drop m s)
unfolding front
front_decode s c m h e = decoded s c m (front_whole s c m h e) (form_of (get_or s 0 0) (get_or s 1 0) (get_or s 2 0) (get_or s 3 0) c m e)

encode_some : (c : ℕ) (t : List ℕ) → 0 < length (encode c ++ t)
unfolding encode
encode_some c t = go (leb c 0x7F) (leb c 0x7FF) (leb c 0xFFFF)
  where
    go : (p q r : Bool) →
        0 < length (cond p (c ∷ []) (cond q ((0xC0 + c / 64) ∷ (0x80 + c % 64) ∷ []) (cond r ((0xE0 + c / 4096) ∷ (0x80 + c / 64 % 64) ∷ (0x80 + c % 64) ∷ []) ((0xF0 + c / 262144) ∷ (0x80 + c / 4096 % 64) ∷ (0x80 + c / 64 % 64) ∷ (0x80 + c % 64) ∷ []))) ++ t)
    go true q r = omega arith
    go false true r = omega arith
    go false false true = omega arith
    go false false false = omega arith

-- the characters of an encoded text are those that were encoded, each with the number of its octets
pub chars_encoded : (cs : List ℕ) → all_scalar cs ≡ true → chars 0 (encode_all cs) ≡ map (λ (c : ℕ). Point c (length (encode c))) cs
unfolding all_scalar encode_all chars
chars_encoded [] e = refl
chars_encoded (c ∷ cs) e =
    let k = both (is_scalar c) (all_scalar cs) e in
    let t = encode c ++ encode_all cs in
    let f : front t ≡ Point c (length (encode c)) = front_encode c k.0 (encode_all cs) in
    let r : drop (0 + length (encode c)) t ≡ encode_all cs = rw (zero-add, drop-append_seam (encode c) (encode_all cs)) in
    let w : front t ∷ chars 0 (drop (0 + size (front t)) t) ≡ Point c (length (encode c)) ∷ chars 0 (encode_all cs) = rw (f, r) in
    chars_at t 0 (encode_some c (encode_all cs)) ∙ w ∙ ap (λ (l : List Char). Point c (length (encode c)) ∷ l) (chars_encoded cs k.1)

all-good : (cs : List ℕ) → all_good (map (λ (c : ℕ). Point c (length (encode c))) cs) ≡ true
unfolding all_good
all-good [] = refl
all-good (c ∷ cs) = all-good cs

-- every encoded text is UTF-8
pub encoded_utf8 : (cs : List ℕ) → all_scalar cs ≡ true → utf8 (encode_all cs) ≡ true
unfolding utf8
encoded_utf8 cs e = ap all_good (chars_encoded cs e) ∙ all-good cs

-- the characters from i on, if they are all good, and then those after the first of them
Encoded : List ℕ → Type 0
Encoded s = (cs : List ℕ) × (all_scalar cs ≡ true) × (s ≡ encode_all cs)

encoded_on :
    (s : List ℕ) (i : ℕ) → i < length s → (x : Char) → x ≡ front (drop i s) → all_good (chars 0 (drop i s)) ≡ true → (all_good (chars 0 (drop (i + size x) s)) ≡ true → Encoded (drop (i + size x) s)) →
    Encoded (drop i s)
unfolding Encoded all_scalar encode_all all_good
encoded_on s i h Bad q e r = absurd (not_both (sym (ap all_good (turn_chars s i h Bad q 1 refl)) ∙ e) refl)
encoded_on s i h (Point c n) q e r =
    let l = length-drop i s in
    let z = front_decode (drop i s) c n (omega arith) (sym q) in
    let k = r (sym (ap all_good (turn_chars s i h (Point c n) q n refl)) ∙ e) in
    let v : drop i s ≡ encode c ++ drop (i + n) s = z.1 ∙ rw drop-drop in
    (c ∷ k.0, rw z.0 k.1, v ∙ ap (λ (t : List ℕ). encode c ++ t) k.2)

encoded_from : (s : List ℕ) (fuel i : ℕ) → length s ≤ fuel + i → all_good (chars 0 (drop i s)) ≡ true → Encoded (drop i s)
unfolding Encoded all_scalar encode_all
encoded_from s zero i h e = ([], refl, drop_of_length-le s {i = i} (omega arith))
encoded_from s (suc fuel) i h e =
    elim (dec_le (length s) i) [
      | yes p ↦ ([], refl, drop_of_length-le s p)
      | no p ↦
          let x = front (drop i s) in
          encoded_on s i (omega arith) x refl e (encoded_from s fuel (i + size x) (omega (arith, turn s i (omega arith) x refl (size x) refl)))
    ]

-- every UTF-8 text is an encoded one
pub utf8_encoded : (s : List ℕ) → utf8 s ≡ true → (cs : List ℕ) × (all_scalar cs ≡ true) × (s ≡ encode_all cs)
unfolding utf8 Encoded
utf8_encoded s e = encoded_from s (length s) 0 (omega arith) e

-- the library's tests, which are of what is above a limit
limit : (c n : ℕ) → ltb c (suc n) ≡ leb c n
limit c n = elim (dec_le c n) [ yes h ↦ lt-ltb c (suc n) (omega arith) ∙ sym (le-leb c n h) | no h ↦ le-ltb c (suc n) (omega arith) ∙ sym (lt-leb c n (omega arith)) ]

scalar_std : (c : ℕ) → scalar_code c ≡ is_scalar c
unfolding is_scalar within
scalar_std c = rw (limit c 0xD7FF, limit c 0x10FFFF, le-leb 0 c (omega arith)) (go (leb c 0xD7FF) (leb 0xE000 c && leb c 0x10FFFF))
  where
    go : (p q : Bool) → cond p true q ≡ (p || q)
    go true q = refl
    go false q = refl

-- the library's encoder is RFC 3629's, and its UTF-8 the same
encode_std : (c : ℕ) → encode_utf8 c ≡ encode c
unfolding encode encode_utf8
encode_std c = rw (limit c 0x7F, limit c 0x7FF, limit c 0xFFFF)

all_std : (cs : List ℕ) → encode_utf8_all cs ≡ encode_all cs
unfolding encode_all
all_std [] = refl
all_std (c ∷ cs) = rw (encode_std c, all_std cs)

scalars_std : (cs : List ℕ) → scalars cs ≡ all_scalar cs
unfolding all_scalar
scalars_std [] = refl
scalars_std (c ∷ cs) = rw (scalar_std c, scalars_std cs)

pub utf8_std : {E : Type 0} (Q : E → Type 0) (s : List ℕ) (r : Result (Bor (List ℕ)) E) → MatchResult r (λ t. (t.now ≡ s) × IsUtf8 s) (λ e. (IsUtf8 s → ⊥) × Q e) → is_ok r ≡ utf8 s
utf8_std Q s (Ok t) h = let u = h.1 in sym (rw (sym u.1.1 ∙ all_std u.0) (encoded_utf8 u.0 (sym (scalars_std u.0) ∙ u.1.0)))
utf8_std Q s (Err e) h = go (utf8 s) refl
  where
    go : (b : Bool) → utf8 s ≡ b → false ≡ b
    go true q = let k = utf8_encoded s q in absurd (h.0 (k.0, (scalars_std k.0 ∙ k.1, all_std k.0 ∙ sym k.2)))
    go false q = refl
