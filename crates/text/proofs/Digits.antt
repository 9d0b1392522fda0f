-- Laws of digits and of the number that they write.
use mathlib.Core.Path.{◌≡◌, refl, sym, ◌∙◌}
use mathlib.Core.Bool.{Bool, true, false, cond, not, ◌&&◌}
use mathlib.Core.List.{List, [], ◌∷◌, ◌++◌}
use Prim.Native.Nat.{ℕ, ◌+◌, ◌*◌, ◌-◌, ◌^◌, ◌≤◌, ◌<◌}
use native.Mathlib.Omega.{arith}
use native.Mathlib.Numerals.{add-one}
use native.Mathlib.Nat.{pow-succ', pow-le-pow_right, mul-le-mul_right}
use borrow.Author.Tests.{not-true, not-false, le-leb, lt-leb}
use lib.Dec.{leb}
use lib.ListN.{length, get_or, drop, drop_of_length-le}
use lib.Seq.{drop-cons}
use Rattle.text.specs.Digits.{digit, all_digits, number, numeral_from, numeral_of}
use Rattle.text.specs.Range.{within}
use Rattle.text.proofs.Bools.{both}
use Rattle.text.proofs.Ranges.{within_range}
use Rattle.std.specs.Prelude.{Option, None, Some}

pub digit_range : (b : ℕ) → digit b ≡ true → (48 ≤ b) × (b ≤ 57)
unfolding digit
digit_range b e = within_range b 0x30 0x39 e

pub number_append : (s : List ℕ) (n : ℕ) (t : List ℕ) → number n (s ++ t) ≡ number (number n s) t
unfolding number
number_append [] n t = refl
number_append (d ∷ s) n t = number_append s (10 * n + (d - 48)) t

pub all_append : (s t : List ℕ) → all_digits s ≡ true → all_digits t ≡ true → all_digits (s ++ t) ≡ true
unfolding all_digits
all_append [] t e f = f
all_append (b ∷ s) t e f = let d = both (digit b) (all_digits s) e in rw d.0 (all_append s t d.1 f)

-- k digits write a number below 10 ^ k
pub number_below : (s : List ℕ) (n : ℕ) → all_digits s ≡ true → number n s < (n + 1) * 10 ^ length s
unfolding all_digits number
number_below [] n e = omega arith
number_below (b ∷ s) n e =
    let d = both (digit b) (all_digits s) e in
    let g = digit_range b d.0 in
    let r = number_below s (10 * n + (b - 48)) d.1 in
    let m : (10 * n + (b - 48) + 1) * 10 ^ length s ≤ (10 * n + 10) * 10 ^ length s = mul-le-mul_right (10 ^ length s) (omega arith) in
    rw (pow-succ' 10 (length s)) (omega arith)

-- digits behind a number make it no less
number_least : (s : List ℕ) (n : ℕ) → n ≤ number n s
unfolding number
number_least [] n = omega arith
number_least (b ∷ s) n = omega (arith, number_least s (10 * n + (b - 48)))

-- the loop of `written`, at i: a digit, another byte, a number that is too large; and after it
module _ (s : List ℕ) (n i : ℕ) (e : numeral_from 0 s ≡ numeral_from n (drop i s)) where
  module _ (d : Bool) (h : i < length s) (q : d ≡ digit (get_or s i 0)) where
    pub digit_other : not d ≡ true → None ≡ numeral_from 0 s
    unfolding numeral_from all_digits
    digit_other p = sym (e ∙ rw (drop-cons s i 0, ← q, not-true d p))

    module _ (m : ℕ) (p : not d ≡ false) (r : m ≡ 10 * n + (get_or s i 0 - 48)) where
      pub digit_on : numeral_from 0 s ≡ numeral_from m (drop (i + 1) s)
      unfolding numeral_from all_digits number
      digit_on = e ∙ rw (add-one, drop-cons s i 0, ← q, not-false d p, r)

      pub digit_over : 4294967295 < m → None ≡ numeral_from 0 s
      unfolding numeral_from
      digit_over l = sym (digit_on ∙ rw (lt-leb (number m (drop (i + 1) s)) 4294967295 (omega (arith, number_least (drop (i + 1) s) m))) (go (all_digits (drop (i + 1) s))))
        where
          go : (b : Bool) → cond (b && false) (Some (number m (drop (i + 1) s))) None ≡ None
          go true = refl
          go false = refl

  pub digit_end : length s ≤ i → n ≤ 4294967295 → Some n ≡ numeral_from 0 s
  unfolding numeral_from all_digits number
  digit_end h l = sym (e ∙ rw (drop_of_length-le s h, le-leb n 4294967295 l))

-- what an answer for at most nine digits, which have 32 bits, says of a text
module _ (most : ℕ) (s : List ℕ) {x : Option ℕ} (e : x ≡ numeral_of most s) where
  pub is_numeral : {n : ℕ} → x ≡ Some n → ((within (length s) 1 most && all_digits s) ≡ true) × (number 0 s ≡ n)
  unfolding numeral_of numeral_from
  is_numeral {n} q = go (within (length s) 1 most) (all_digits s) (leb (number 0 s) 4294967295) (sym e ∙ q)
    where
      go : (w a l : Bool) → cond w (cond (a && l) (Some (number 0 s)) None) None ≡ Some n → ((w && a) ≡ true) × (number 0 s ≡ n)
      go true true true f = (refl, cc)
      go true true false f = (cc, cc)
      go true false l f = (cc, cc)
      go false a l f = (cc, cc)

  pub no_numeral : most ≤ 9 → x ≡ None → (within (length s) 1 most && all_digits s) ≡ false
  unfolding numeral_of numeral_from
  no_numeral h q = go (within (length s) 1 most) refl (all_digits s) refl (sym e ∙ q)
    where
      go : (w : Bool) → within (length s) 1 most ≡ w → (a : Bool) → all_digits s ≡ a → cond w (cond (a && leb (number 0 s) 4294967295) (Some (number 0 s)) None) None ≡ None → (w && a) ≡ false
      go true p true r f =
          let l = (within_range (length s) 1 most p).1 in
          let b : 10 ^ length s ≤ 10 ^ 9 = pow-le-pow_right {n = 10} (omega arith) {i = length s} {j = 9} (omega arith) in
          let k = le-leb (number 0 s) 4294967295 (omega (arith, number_below s 0 r)) in
          let f' : Some (number 0 s) ≡ None = rw k at f in
          cc
      go true p false r f = refl
      go false p a r f = refl
