-- `decimal` accepts what the grammar spells and nothing else, and finds the parts that were spelled.
use mathlib.Core.Path.{◌≡◌, refl, ◌∙◌, ap}
use mathlib.Core.Bool.{Bool, true, false, cond, ◌&&◌, ◌||◌, not}
use mathlib.Core.List.{List, [], ◌∷◌, ◌++◌}
use Prim.Native.Nat.{ℕ}
use native.Mathlib.Omega.{arith}
use borrow.Author.Tests.{eqb-true, ne_eqb}
use lib.Dec.{eqb}
use Rattle.text.specs.Digits.{digit, all_digits}
use Rattle.text.specs.Range.{within}
use Rattle.text.proofs.Bools.{both}
use Rattle.text.proofs.Digits.{digit_range}
use Rattle.amount.specs.Decimal.{empty, unsigned, digits_of, past_digits, pointed, past_point, whole, fraction, decimal}
use Rattle.amount.specs.Grammar.{Sign, none, minus, plus, Point, absent, period, Spelled}
use Rattle.amount.proofs.Meaning.{front_digits}

-- digits, and then something that does not begin with one
past-point : (w : List ℕ) {p f : List ℕ} → Point p f → all_digits w ≡ true → (digits_of (w ++ p) ≡ w) × (past_digits (w ++ p) ≡ p)
unfolding digits_of past_digits all_digits digit within
past-point [] absent e = (refl, refl)
past-point [] (period f) e = (refl, refl)
past-point (d ∷ w) k e =
    let b = both (digit d) (all_digits w) e in
    let r = past-point w k b.1 in
    (rw b.0 (ap (λ (l : List ℕ). d ∷ l) r.0), rw b.0 r.1)

-- what begins with neither - nor +
no_sign : (b : ℕ) (s : List ℕ) → (b ≡ 0x2D → ⊥) → (b ≡ 0x2B → ⊥) → unsigned (b ∷ s) ≡ b ∷ s
unfolding unsigned
no_sign b s m p = rw (ne_eqb b 0x2D m, ne_eqb b 0x2B p)

past_sign : {s : List ℕ} → Sign s → (w : List ℕ) {p f : List ℕ} → Point p f → all_digits w ≡ true → empty (w ++ f) ≡ false → unsigned (s ++ (w ++ p)) ≡ w ++ p
unfolding unsigned all_digits
past_sign none [] absent e n = refl
past_sign none [] (period f) e n = refl
past_sign none (d ∷ w) {p} k e n = let g = digit_range d (both (digit d) (all_digits w) e).0 in no_sign d (w ++ p) (λ q. omega arith) (λ q. omega arith)
past_sign minus w k e n = refl
past_sign plus w k e n = refl

point_parts : {p f : List ℕ} → Point p f → (pointed p ≡ true) × (past_point p ≡ f)
unfolding pointed past_point
point_parts absent = (refl, refl)
point_parts (period f) = (refl, refl)

-- what the grammar spells is accepted, with its parts
pub spelled_decimal : (t w f : List ℕ) → Spelled t w f → (decimal t ≡ true) × (whole t ≡ w) × (fraction t ≡ f)
unfolding decimal whole fraction
spelled_decimal t w f k =
    let u : unsigned t ≡ w ++ k.point = rw k.is (past_sign k.sign_is w k.point_is k.whole_digits k.some) in
    let d = past-point w k.point_is k.whole_digits in
    let p = point_parts k.point_is in
    (rw (u, d.0, d.1, p.0, p.1, k.fraction_digits, k.some), rw (u, d.0), rw (u, d.1, p.1))

-- a text is its digits and what follows them
digits_join : (u : List ℕ) → u ≡ digits_of u ++ past_digits u
unfolding digits_of past_digits
digits_join [] = refl
digits_join (b ∷ u) = go (digit b) (digits_join u)
  where
    go : (d : Bool) → u ≡ digits_of u ++ past_digits u → b ∷ u ≡ cond d (b ∷ digits_of u) [] ++ cond d (past_digits u) (b ∷ u)
    go true r = ap (λ (l : List ℕ). b ∷ l) r
    go false r = refl

-- a text is a sign and what follows it
sign_join : (t : List ℕ) → (s : List ℕ) × Sign s × (t ≡ s ++ unsigned t)
unfolding unsigned
sign_join [] = ([], none, refl)
sign_join (b ∷ s) = go (eqb b 0x2D) (eqb b 0x2B) refl refl
  where
    go : (m p : Bool) → eqb b 0x2D ≡ m → eqb b 0x2B ≡ p → (z : List ℕ) × Sign z × (b ∷ s ≡ z ++ cond (m || p) s (b ∷ s))
    go true p e f = (0x2D ∷ [], minus, rw (eqb-true b 0x2D e))
    go false true e f = (0x2B ∷ [], plus, rw (eqb-true b 0x2B f))
    go false false e f = ([], none, refl)

point_join : (r : List ℕ) → pointed r ≡ true → Point r (past_point r)
unfolding pointed past_point
point_join [] e = absent
point_join (b ∷ f) e = rw (eqb-true b 0x2E e) (period f)

unnot : (p : Bool) → not p ≡ true → p ≡ false
unnot true e = cc
unnot false e = refl

-- what is accepted, the grammar spells
pub decimal_spelled : (t : List ℕ) → decimal t ≡ true → Spelled t (whole t) (fraction t)
unfolding decimal whole fraction
decimal_spelled t e =
    let u = unsigned t in
    let b = both (pointed (past_digits u) && all_digits (past_point (past_digits u))) (not (empty (digits_of u ++ past_point (past_digits u)))) e in
    let b' = both (pointed (past_digits u)) (all_digits (past_point (past_digits u))) b.0 in
    let s = sign_join t in
    record {
      sign = s.0;
      point = past_digits u;
      sign_is = s.1;
      point_is = point_join (past_digits u) b'.0;
      whole_digits = front_digits u;
      fraction_digits = b'.1;
      some = unnot (empty (digits_of u ++ past_point (past_digits u))) b.1;
      is = s.2 ∙ ap (λ (l : List ℕ). s.0 ++ l) (digits_join u);
    }
