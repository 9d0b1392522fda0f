-- How many bytes characters take: those of a document take no more than its bytes.
use mathlib.Core.Path.{◌≡◌, refl, ap, ◌∙◌}
use mathlib.Core.Bool.{Bool, true, false, cond}
use mathlib.Core.List.{List, [], ◌∷◌, ◌++◌, map}
use Prim.Native.Nat.{ℕ, ◌+◌, ◌/◌, ◌%◌, ◌≤◌}
use native.Mathlib.Omega.{arith}
use lib.Dec.{leb, eqb}
use lib.ListN.{length, length-append}
use Rattle.text.specs.Utf8.{encode}
use Rattle.characters.specs.Characters.{Point, encode_all, chars, utf8}
use Rattle.characters.proofs.Encoding.{chars_encoded, utf8_encoded}
use Rattle.markup.specs.Points.{points_of, points, lines, logical}

-- the bytes that characters take in UTF-8
abbrev pub weight : List ℕ → ℕ
weight x = length (encode_all x)

-- one to four each
pub encode_length : (c : ℕ) → (1 ≤ length (encode c)) × (length (encode c) ≤ 4)
unfolding encode
encode_length c = go (leb c 0x7F) (leb c 0x7FF) (leb c 0xFFFF)
  where
    go : (p q r : Bool) →
        let l = length (cond p (c ∷ []) (cond q ((0xC0 + c / 64) ∷ (0x80 + c % 64) ∷ []) (cond r ((0xE0 + c / 4096) ∷ (0x80 + c / 64 % 64) ∷ (0x80 + c % 64) ∷ []) ((0xF0 + c / 262144) ∷ (0x80 + c / 4096 % 64) ∷ (0x80 + c / 64 % 64) ∷ (0x80 + c % 64) ∷ [])))) in
        (1 ≤ l) × (l ≤ 4)
    go true q r = omega arith
    go false true r = omega arith
    go false false true = omega arith
    go false false false = omega arith

pub weight_none : weight [] ≡ 0
unfolding encode_all
weight_none = refl

pub weight_cons : (c : ℕ) (x : List ℕ) → weight (c ∷ x) ≡ length (encode c) + weight x
unfolding encode_all
weight_cons c x = length-append (encode c) (encode_all x)

pub weight_append : (x y : List ℕ) → weight (x ++ y) ≡ weight x + weight y
unfolding encode_all
weight_append [] y = omega arith
weight_append (c ∷ x) y = let h = weight_append x y in simp length-append (omega arith)

pub weight_length : (x : List ℕ) → length x ≤ weight x
weight_length [] = omega arith
weight_length (c ∷ x) = let h = weight_length x in let e = weight_cons c x in let k = encode_length c in omega arith

-- a line feed is a byte
feed : length (encode 0xA) ≡ 1
unfolding encode
feed = refl

fed : (c : ℕ) (x y : List ℕ) → weight x ≤ weight y → weight (0xA ∷ x) ≤ weight (c ∷ y)
fed c x y h = omega (arith, feed, weight_cons 0xA x, weight_cons c y, encode_length c)

-- line ends only shrink
lines_weight : (after : Bool) (x : List ℕ) → weight (lines after x) ≤ weight x
unfolding lines
lines_weight true [] = omega arith
lines_weight false [] = omega arith
lines_weight true (c ∷ x) = go (eqb c 0xA) (eqb c 0xD) (lines_weight true x) (lines_weight false x)
  where
    go : (p q : Bool) → weight (lines true x) ≤ weight x → weight (lines false x) ≤ weight x → weight (cond p (lines false x) (cond q (0xA ∷ lines true x) (c ∷ lines false x))) ≤ weight (c ∷ x)
    go true q h k = omega (arith, weight_cons c x)
    go false true h k = fed c (lines true x) x h
    go false false h k = omega (arith, weight_cons c x, weight_cons c (lines false x))
lines_weight false (c ∷ x) = go (eqb c 0xD) (lines_weight true x) (lines_weight false x)
  where
    go : (q : Bool) → weight (lines true x) ≤ weight x → weight (lines false x) ≤ weight x → weight (cond q (0xA ∷ lines true x) (c ∷ lines false x)) ≤ weight (c ∷ x)
    go true h k = fed c (lines true x) x h
    go false h k = omega (arith, weight_cons c x, weight_cons c (lines false x))

points_encoded : (cs : List ℕ) → points_of (map (λ (c : ℕ). Point c (length (encode c))) cs) ≡ cs
unfolding points_of
points_encoded [] = refl
points_encoded (c ∷ cs) = ap (λ (l : List ℕ). c ∷ l) (points_encoded cs)

-- the characters of a document take no more than its bytes
pub logical_weight : (s : List ℕ) → utf8 s ≡ true → weight (logical s) ≤ length s
unfolding logical points
logical_weight s u =
    let e = utf8_encoded s u in
    let cs = e.0 in
    let p : points_of (chars 0 s) ≡ cs = ap (λ (l : List ℕ). points_of (chars 0 l)) e.2 ∙ ap points_of (chars_encoded cs e.1) ∙ points_encoded cs in
    let l : length s ≡ weight cs = ap length e.2 in
    let h = lines_weight false cs in
    rw p (omega arith)
