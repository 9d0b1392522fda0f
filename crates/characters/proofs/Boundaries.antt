-- Laws of boundaries: a UTF-8 text falls into UTF-8 texts wherever no character is cut.
use mathlib.Core.Path.{◌≡◌, refl, ap}
use mathlib.Core.Bool.{true, not}
use mathlib.Core.List.{List, [], ◌∷◌, ◌++◌}
use Prim.Native.Nat.{ℕ, ◌+◌, ◌-◌, ◌<◌}
use native.Mathlib.Omega.{arith}
use native.Mathlib.Decide.{ℕ_discrete, dec_lt}
use lib.ListN.{length, get_or, take, drop}
use lib.Seq.{take-nil, drop-nil, take-append-add, drop-append-add, get_or-append-add, get_or-drop}
use Rattle.text.specs.Span.{clipped}
use Rattle.text.specs.Utf8.{encode}
use Rattle.text.proofs.Bools.{both, not_both}
use Rattle.characters.specs.Characters.{Point, is_scalar, all_scalar, encode_all, tail, boundary, front, utf8}
use Rattle.characters.proofs.Characters.{Form, one, two_form, three_form, four_form, form_of}
use Rattle.characters.proofs.Encoding.{front_encode, encoded_utf8, utf8_encoded}

-- every octet of a character but its first continues it
continues : (s : List ℕ) (c m i : ℕ) → front s ≡ Point c m → 0 < i → i < m → tail (get_or s i 0) ≡ true
unfolding front
continues s c m i e h l = go (form_of (get_or s 0 0) (get_or s 1 0) (get_or s 2 0) (get_or s 3 0) c m e)
  where
    at : (k : ℕ) → tail (get_or s k 0) ≡ true → i ≡ k → tail (get_or s i 0) ≡ true
    at k t q = rw q t

    go : Form (get_or s 0 0) (get_or s 1 0) (get_or s 2 0) (get_or s 3 0) c m → tail (get_or s i 0) ≡ true
    go (one a q n) = absurd (omega arith)
    go (two_form a a' t k n) = at 1 t (omega arith)
    go (three_form a a' t t' k n) = elim (ℕ_discrete i 1) [ yes q ↦ at 1 t q | no q ↦ at 2 t' (omega arith) ]
    go (four_form a a' t t' t'' k n) = elim (ℕ_discrete i 1) [ yes q ↦ at 1 t q | no q ↦ elim (ℕ_discrete i 2) [ yes q' ↦ at 2 t' q' | no q' ↦ at 3 t'' (omega arith) ] ]

-- a character more at the front
utf8_more : (c : ℕ) (s : List ℕ) → is_scalar c ≡ true → utf8 s ≡ true → utf8 (encode c ++ s) ≡ true
unfolding all_scalar encode_all
utf8_more c s e u =
    let k = utf8_encoded s u in
    rw k.2 (encoded_utf8 (c ∷ k.0) (rw e k.1))

-- what stands before i is UTF-8, and so is what stands from i on
Cut : List ℕ → ℕ → Type 0
Cut s i = (utf8 (take i s) ≡ true) × (utf8 (drop i s) ≡ true)

cut_later : (c : ℕ) (s : List ℕ) (i : ℕ) → is_scalar c ≡ true → Cut s i → Cut (encode c ++ s) (length (encode c) + i)
unfolding Cut
cut_later c s i e k = rw (take-append-add, drop-append-add) (utf8_more c (take i s) e k.0, k.1)

cut_encoded : (cs : List ℕ) → all_scalar cs ≡ true → (i : ℕ) → boundary (encode_all cs) i ≡ true → Cut (encode_all cs) i
unfolding Cut all_scalar encode_all boundary
cut_encoded [] e i b = rw (take-nil i, drop-nil i) (encoded_utf8 [] refl, encoded_utf8 [] refl)
cut_encoded (c ∷ cs) e i b =
    let k = both (is_scalar c) (all_scalar cs) e in
    let s = encode_all cs in
    let n = length (encode c) in
    elim (dec_lt i n) [
      | yes h ↦ elim (ℕ_discrete i 0) [
        | yes z ↦ rw z (encoded_utf8 [] refl, encoded_utf8 (c ∷ cs) e)
        | no z ↦ absurd (not_both b (ap not (continues (encode c ++ s) c n i (front_encode c k.0 s) (omega arith) h)))
      ]
      | no h ↦
          let z : n + (i - n) ≡ i = omega arith in
          rw z at (cut_later c s (i - n) k.0 (cut_encoded cs k.1 (i - n) (rw (← z, get_or-append-add) at b)))
    ]

-- a UTF-8 text cut at a boundary is two UTF-8 texts
pub cut_utf8 : (s : List ℕ) (i : ℕ) → utf8 s ≡ true → boundary s i ≡ true → (utf8 (take i s) ≡ true) × (utf8 (drop i s) ≡ true)
unfolding Cut
cut_utf8 s i u b =
    let k = utf8_encoded s u in
    rw k.2 (cut_encoded k.0 k.1 i (rw k.2 at b))

-- a part of a UTF-8 text from a boundary to a boundary is UTF-8
pub part_utf8 : (s : List ℕ) (start len : ℕ) → utf8 s ≡ true → boundary s start ≡ true → boundary s (start + len) ≡ true → utf8 (clipped s start len) ≡ true
unfolding clipped boundary
part_utf8 s start len u b b' = (cut_utf8 (drop start s) len (cut_utf8 s start u b).1 (rw get_or-drop b')).0
