-- Laws of numbers in decimal digits.
use mathlib.Core.Path.{◌≡◌, refl, sym, ap, ◌∙◌}
use mathlib.Core.Bool.{Bool, true, false}
use mathlib.Core.List.{List, [], ◌∷◌, ◌++◌, append_assoc, map}
use Prim.Native.Nat.{ℕ, zero, suc, ◌+◌, ◌-◌, ◌*◌, ◌/◌, ◌%◌, ◌^◌, ◌≤◌, ◌<◌}
use native.Mathlib.Omega.{arith}
use native.Mathlib.Nat.{pow-succ'}
use borrow.Author.Tests.{lt-ltb, le-ltb, ltb-true, ltb-false}
use lib.Dec.{ltb}
use lib.IntN.{ℤ, pos, negsuc}
use lib.Signed.{mag}
use lib.ListN.{length, get_or, drop, set, length-append, get_or-append}
use Rattle.std.specs.Fmt as library
use Rattle.std.specs.Int.Digits.{digits_of}
use Rattle.std.proofs.lemmas.Fmt.{decimal-digits_of}
use Rattle.std.proofs.lemmas.Int.Digits.{digits_of_step}
use Rattle.std.proofs.lemmas.List.{drop-set, map-append}
use Rattle.text.specs.Digits.{digit, all_digits, number}
use Rattle.text.proofs.Digits.{number_append, all_append}
use Rattle.text.proofs.Ranges.{within_yes}
use Rattle.decimals.specs.Decimal.{spelled, decimal, signed}

-- one digit, and more
module _ (f n : ℕ) where
  pub spelled_one : n < 10 → spelled (suc f) n ≡ (0x30 + n) ∷ []
  unfolding spelled
  spelled_one h = rw (lt-ltb n 10 h)

  pub spelled_more : 10 ≤ n → spelled (suc f) n ≡ spelled f (n / 10) ++ ((0x30 + n % 10) ∷ [])
  unfolding spelled
  spelled_more h = rw (le-ltb n 10 h)

-- more digits than there are may be asked for
spelled_enough : (f g n : ℕ) → n < f → n < g → spelled f n ≡ spelled g n
spelled_enough zero g n h k = absurd (omega arith)
spelled_enough (suc f) zero n h k = absurd (omega arith)
spelled_enough (suc f) (suc g) n h k = go (ltb n 10) refl (spelled_enough f g (n / 10))
  where
    go : (b : Bool) → ltb n 10 ≡ b → (n / 10 < f → n / 10 < g → spelled f (n / 10) ≡ spelled g (n / 10)) → spelled (suc f) n ≡ spelled (suc g) n
    go true e r = let m = ltb-true n 10 e in spelled_one f n m ∙ sym (spelled_one g n m)
    go false e r =
        let m = ltb-false n 10 e in
        spelled_more f n m ∙ ap (λ (s : List ℕ). s ++ ((0x30 + n % 10) ∷ [])) (r (omega arith) (omega arith)) ∙ sym (spelled_more g n m)

-- all digits: one, and more
decimal_one : (n : ℕ) → n < 10 → decimal n ≡ (0x30 + n) ∷ []
unfolding decimal
decimal_one n h = spelled_one n n h

decimal_more : (n : ℕ) → 10 ≤ n → decimal n ≡ decimal (n / 10) ++ ((0x30 + n % 10) ∷ [])
unfolding decimal
decimal_more n h =
    spelled_more n n h ∙ ap (λ (s : List ℕ). s ++ ((0x30 + n % 10) ∷ [])) (spelled_enough n (suc (n / 10)) (n / 10) (omega arith) (omega arith))

-- a number of more than one digit has room for one less in front
pub room_left : (n at : ℕ) → 10 ≤ n → n < 10 ^ (at + 1) → (at - 1 + 1 ≡ at) × (n / 10 < 10 ^ at)
room_left n zero m h = absurd (omega arith)
room_left n (suc k) m h =
    let p = pow-succ' 10 (suc k) in
    let q : suc k + 1 ≡ suc (suc k) = omega arith in
    let l = rw q at h in
    (omega arith, omega (arith, p, l))

-- digits that are stored from the last on, each in front of those that are there: one more, and the first
module _ (n rest at : ℕ) (s : List ℕ) (h : at < length s) (p : decimal n ≡ decimal rest ++ drop (at + 1) s) where
  pub digit_stored : 10 ≤ rest → decimal n ≡ decimal (rest / 10) ++ drop at (set s at (0x30 + rest % 10))
  digit_stored m =
      p ∙ ap (λ (t : List ℕ). t ++ drop (at + 1) s) (decimal_more rest m) ∙ append_assoc (decimal (rest / 10)) ((0x30 + rest % 10) ∷ []) (drop (at + 1) s) ∙
      ap (λ (t : List ℕ). decimal (rest / 10) ++ t) (sym (drop-set s at (0x30 + rest % 10) h))

  pub first_stored : rest < 10 → drop at (set s at (0x30 + rest)) ≡ decimal n
  first_stored m = drop-set s at (0x30 + rest) h ∙ sym (p ∙ ap (λ (t : List ℕ). t ++ drop (at + 1) s) (decimal_one rest m))

-- they are those that the library writes
digits_spelled : (f n : ℕ) → n < f → 0 < n → map (λ d. 48 + d) (digits_of 10 n) ≡ spelled f n
digits_spelled zero n h p = absurd (omega arith)
digits_spelled (suc f) n h p = go (ltb n 10) refl (digits_spelled f (n / 10))
  where
    step : map (λ d. 48 + d) (digits_of 10 n) ≡ map (λ d. 48 + d) (digits_of 10 (n / 10)) ++ ((48 + n % 10) ∷ [])
    step = ap (map (λ d. 48 + d)) (digits_of_step 10 n (omega arith) p) ∙ map-append (λ d. 48 + d) (digits_of 10 (n / 10)) (n % 10 ∷ [])

    go : (b : Bool) → ltb n 10 ≡ b → (n / 10 < f → 0 < n / 10 → map (λ d. 48 + d) (digits_of 10 (n / 10)) ≡ spelled f (n / 10)) → map (λ d. 48 + d) (digits_of 10 n) ≡ spelled (suc f) n
    go true e r =
        let m = ltb-true n 10 e in
        let z : n / 10 ≡ 0 = omega arith in
        let q : n % 10 ≡ n = omega arith in
        step ∙ rw (z, q) (sym (spelled_one f n m))
    go false e r =
        let m = ltb-false n 10 e in
        step ∙ rw (r (omega arith) (omega arith)) (sym (spelled_more f n m))

pub decimal_written : (n : ℕ) → n < 2 ^ 64 → library.decimal n ≡ decimal n
unfolding decimal spelled library.digits
decimal_written zero h = refl
decimal_written (suc n) h = decimal-digits_of (suc n) (omega arith) h ∙ digits_spelled (suc (suc n)) (suc n) (omega arith) (omega arith)

pub signed_written : (z : ℤ) → mag z < 2 ^ 63 → library.signed_decimal z ≡ signed z
unfolding signed
signed_written (pos n) h = decimal_written n (omega arith)
signed_written (negsuc n) h = ap (λ (s : List ℕ). 0x2D ∷ s) (decimal_written (suc n) (omega arith))

-- one digit more
number_one : (n d : ℕ) → number n ((0x30 + d) ∷ []) ≡ 10 * n + d
unfolding number
number_one n d = omega arith

-- digits write the number that they spell
number_spelled : (f n : ℕ) → n < f → number 0 (spelled f n) ≡ n
number_spelled zero n h = absurd (omega arith)
number_spelled (suc f) n h = go (ltb n 10) refl (number_spelled f (n / 10))
  where
    go : (b : Bool) → ltb n 10 ≡ b → (n / 10 < f → number 0 (spelled f (n / 10)) ≡ n / 10) → number 0 (spelled (suc f) n) ≡ n
    go true e r = rw (spelled_one f n (ltb-true n 10 e)) (number_one 0 n ∙ omega arith)
    go false e r =
        let m = ltb-false n 10 e in
        rw (spelled_more f n m, number_append (spelled f (n / 10)) 0 ((0x30 + n % 10) ∷ []), r (omega arith), number_one (n / 10) (n % 10)) (omega arith)

pub number_decimal : (n : ℕ) → number 0 (decimal n) ≡ n
unfolding decimal
number_decimal n = number_spelled (suc n) n (omega arith)

-- they are digits, and the first is no zero
digit-of : (d : ℕ) → d < 10 → all_digits ((0x30 + d) ∷ []) ≡ true
unfolding all_digits digit
digit-of d h = rw (within_yes (0x30 + d) 0x30 0x39 (omega arith) (omega arith))

digits_all : (f n : ℕ) → n < f → all_digits (spelled f n) ≡ true
digits_all zero n h = absurd (omega arith)
digits_all (suc f) n h = go (ltb n 10) refl (digits_all f (n / 10))
  where
    go : (b : Bool) → ltb n 10 ≡ b → (n / 10 < f → all_digits (spelled f (n / 10)) ≡ true) → all_digits (spelled (suc f) n) ≡ true
    go true e r = rw (spelled_one f n (ltb-true n 10 e)) (digit-of n (ltb-true n 10 e))
    go false e r =
        let m = ltb-false n 10 e in
        rw (spelled_more f n m) (all_append (spelled f (n / 10)) ((0x30 + n % 10) ∷ []) (r (omega arith)) (digit-of (n % 10) (omega arith)))

first_digit : (f n : ℕ) → n < f → 0 < n → (0 < length (spelled f n)) × (get_or (spelled f n) 0 0 ≡ 0x30 → ⊥)
first_digit zero n h p = absurd (omega arith)
first_digit (suc f) n h p = go (ltb n 10) refl (first_digit f (n / 10))
  where
    go : (b : Bool) → ltb n 10 ≡ b → (n / 10 < f → 0 < n / 10 → (0 < length (spelled f (n / 10))) × (get_or (spelled f (n / 10)) 0 0 ≡ 0x30 → ⊥)) → (0 < length (spelled (suc f) n)) × (get_or (spelled (suc f) n) 0 0 ≡ 0x30 → ⊥)
    go true e r = rw (spelled_one f n (ltb-true n 10 e)) (omega arith, λ q. omega arith)
    go false e r =
        let m = ltb-false n 10 e in
        let q = r (omega arith) (omega arith) in
        rw (spelled_more f n m, length-append (spelled f (n / 10)) ((0x30 + n % 10) ∷ []), get_or-append (spelled f (n / 10)) ((0x30 + n % 10) ∷ []) 0 0 q.0) (omega (arith, q.0), q.1)

pub decimal_all : (n : ℕ) → all_digits (decimal n) ≡ true
unfolding decimal
decimal_all n = digits_all (suc n) n (omega arith)

pub decimal_first : (n : ℕ) → 0 < n → get_or (decimal n) 0 0 ≡ 0x30 → ⊥
unfolding decimal
decimal_first n h = (first_digit (suc n) n (omega arith) h).1
