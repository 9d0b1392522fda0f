-- The walk means what the definitions say: `finish_run` for amounts, `rate_run` for percentages.
use mathlib.Core.Path.{◌≡◌, refl, ◌∙◌, ap}
use mathlib.Core.Bool.{Bool, true, false, cond, ◌&&◌, ◌||◌, not}
use mathlib.Core.List.{List, [], ◌∷◌, ◌++◌}
use Prim.Native.Nat.{ℕ, zero, suc, ◌+◌, ◌*◌, ◌-◌, ◌^◌, ◌≤◌, ◌<◌}
use native.Mathlib.Omega.{arith}
use native.Mathlib.Nat.{add-zero, zero-add, pow-le-pow_right}
use native.Mathlib.Decide.{dec_le, dec_lt}
use borrow.Author.Tests.{le-leb, lt-leb, lt-ltb, le-ltb, ne_eqb}
use lib.Dec.{leb, eqb, lit<}
use lib.ListN.{length, take, length-append}
use lib.IntN.{ℤ}
use Rattle.text.specs.Answer.{Answer, read, says, silent}
use Rattle.text.specs.Digits.{digit, all_digits, number}
use Rattle.text.proofs.Bools.{both, nested}
use Rattle.text.proofs.Digits.{number_append, all_append, number_below}
use Rattle.characters.specs.Trim.{trim_of}
use Rattle.amount.specs.declared.amount.AmountError.{AmountError}
use Rattle.amount.specs.declared.amount.InvoiceAmount.{InvoiceAmount}
use Rattle.amount.specs.declared.decimal.Walk.{Walk}
use Rattle.amount.specs.declared.decimal.Walk.TheVariants.{Nothing, Whole, Fraction, Malformed}
use Rattle.amount.specs.declared.numeric.PercentageError.{PercentageError}
use Rattle.amount.specs.declared.numeric.Percentage.{Percentage}
use Rattle.amount.specs.Decimal.{empty, negative, unsigned, digits_of, past_digits, pointed, past_point, whole, fraction, decimal, signed}
use Rattle.amount.specs.Amount.{hundredths, in_range, amount_of, parsed_amount}
use Rattle.amount.specs.Percentage.{percentage_of, parsed_percentage}
use Rattle.amount.specs.Answers.{amount_answer, percentage_answer}
use Rattle.amount.specs.Walk.{cap, sat, whole_step, fraction_step, start_step, run, ranged, padded, rated, counted, end_of, finish_of, rate_of}
use Rattle.amount.proofs.Walks.{run_malformed}
use Rattle.std.specs.Prelude.{Result, Err}

-- counts and sizes that stop
sat_up : (K : ℕ) → sat (sat K + 1) ≡ sat (K + 1)
sat_up K = omega arith

cap_push : (M d : ℕ) → cap (10 * cap M + d) ≡ cap (10 * M + d)
cap_push M d = omega arith

-- the walk over a fraction, after K digits of the size M, P of them decimals
run_fraction :
    (f : List ℕ) (g : Bool) (K M P : ℕ) →
    run (Fraction g (sat K) (cap M) (sat P)) f ≡ cond (all_digits f) (Fraction g (sat (K + length f)) (cap (number M f)) (sat (P + length f))) Malformed
unfolding run all_digits number fraction_step
run_fraction [] g K M P = rw (add-zero K, add-zero P)
run_fraction (b ∷ f) g K M P = go (digit b) (run_fraction f g (K + 1) (10 * M + (b - 48)) (P + 1))
  where
    go : (d : Bool) →
        run (Fraction g (sat (K + 1)) (cap (10 * M + (b - 48))) (sat (P + 1))) f ≡
        cond (all_digits f) (Fraction g (sat (K + 1 + length f)) (cap (number (10 * M + (b - 48)) f)) (sat (P + 1 + length f))) Malformed →
        run (cond d (Fraction g (sat (sat K + 1)) (cap (10 * cap M + (b - 48))) (sat (sat P + 1))) Malformed) f ≡
        cond (d && all_digits f) (Fraction g (sat (K + suc (length f))) (cap (number (10 * M + (b - 48)) f)) (sat (P + suc (length f)))) Malformed
    go true r =
        let k : K + 1 + length f ≡ K + suc (length f) = omega arith in
        let p : P + 1 + length f ≡ P + suc (length f) = omega arith in
        rw (sat_up K, sat_up P, cap_push M (b - 48)) (rw (k, p) at r)
    go false r = run_malformed f

-- where the walk over a whole part of K digits and the size M comes to, by what follows it
whole_end : Bool → ℕ → ℕ → List ℕ → Walk
whole_end g K M [] = Whole g (sat K) (cap M)
whole_end g K M (b ∷ f) = cond (eqb b 0x2E) (cond (all_digits f) (Fraction g (sat (K + length f)) (cap (number M f)) (sat (length f))) Malformed) Malformed

run_whole : (u : List ℕ) (g : Bool) (K M : ℕ) → run (Whole g (sat K) (cap M)) u ≡ whole_end g (K + length (digits_of u)) (number M (digits_of u)) (past_digits u)
unfolding run digits_of past_digits number whole_step whole_end
run_whole [] g K M = rw (add-zero K)
run_whole (b ∷ u) g K M = go (digit b) (eqb b 0x2E) refl (run_whole u g (K + 1) (10 * M + (b - 48))) (run_fraction u g K M 0)
  where
    go : (d q : Bool) → eqb b 0x2E ≡ q →
        run (Whole g (sat (K + 1)) (cap (10 * M + (b - 48)))) u ≡ whole_end g (K + 1 + length (digits_of u)) (number (10 * M + (b - 48)) (digits_of u)) (past_digits u) →
        run (Fraction g (sat K) (cap M) (sat 0)) u ≡ cond (all_digits u) (Fraction g (sat (K + length u)) (cap (number M u)) (sat (0 + length u))) Malformed →
        run (cond d (Whole g (sat (sat K + 1)) (cap (10 * cap M + (b - 48)))) (cond q (Fraction g (sat K) (cap M) 0) Malformed)) u ≡
        whole_end g (K + length (cond d (b ∷ digits_of u) [])) (number M (cond d (b ∷ digits_of u) [])) (cond d (past_digits u) (b ∷ u))
    go true q e r f =
        let k : K + 1 + length (digits_of u) ≡ K + suc (length (digits_of u)) = omega arith in
        rw (sat_up K, cap_push M (b - 48)) (rw k at r)
    go false true e r f = rw (e, add-zero K) (rw zero-add at f)
    go false false e r f = rw e (run_malformed u)

-- where the walk over a text comes to
run_start : (b : ℕ) (s : List ℕ) → let t = b ∷ s in run Nothing t ≡ whole_end (negative t) (length (whole t)) (number 0 (whole t)) (past_digits (unsigned t))
unfolding start_step negative unsigned whole run
run_start b s = go (eqb b 0x2D) (eqb b 0x2B)
  where
    from : (u : List ℕ) (g : Bool) → run (Whole g 0 0) u ≡ whole_end g (length (digits_of u)) (number 0 (digits_of u)) (past_digits u)
    from u g = rw zero-add at (run_whole u g 0 0)

    go : (m p : Bool) → let u : List ℕ = cond (m || p) s (b ∷ s) in
        run (cond m (Whole true 0 0) (cond p (Whole false 0 0) (whole_step false 0 0 b))) s ≡ whole_end m (length (digits_of u)) (number 0 (digits_of u)) (past_digits u)
    go true p = from s true
    go false true = from s false
    go false false = from (b ∷ s) false

-- a size with its sign, in range or not
verdict : ℤ → Answer ℤ
verdict z = cond (in_range z) (read z) (says 5)

ranged_is : (g : Bool) (n : ℕ) → amount_answer (ranged g (cap n)) ≡ verdict (signed g n)
unfolding ranged verdict signed in_range
ranged_is true zero = refl
ranged_is true (suc k) =
    elim (dec_le (suc k) (2 ^ 63)) [
      | yes h ↦
          let c : cap (suc k) ≡ suc k = omega arith in
          rw (c, le-leb (suc k) (2 ^ 63) h, le-leb k (2 ^ 63 - 1) (omega arith))
      | no h ↦ rw (lt-leb (cap (suc k)) (2 ^ 63) (omega arith), lt-leb k (2 ^ 63 - 1) (omega arith))
    ]
ranged_is false n =
    elim (dec_lt n (2 ^ 63)) [
      | yes h ↦
          let c : cap n ≡ n = omega arith in
          rw (c, lt-ltb n (2 ^ 63) h, le-leb n (2 ^ 63 - 1) (omega arith))
      | no h ↦ rw (le-ltb (cap n) (2 ^ 63) (omega arith), lt-leb n (2 ^ 63 - 1) (omega arith))
    ]

-- the padding of a fraction f after a whole part N
padded_is :
    (g : Bool) (f : List ℕ) (N : ℕ) →
    amount_answer (padded g (cap (number N f)) (sat (length f))) ≡ cond (leb (length f) 2) (verdict (signed g (number N (take 2 (f ++ 48 ∷ 48 ∷ []))))) (says 4)
unfolding padded number
padded_is g [] N = rw (cap_push N 0, cap_push (10 * N + 0) 0) (ranged_is g (10 * (10 * N + 0) + 0))
padded_is g (x ∷ []) N = rw (cap_push (10 * N + (x - 48)) 0) (ranged_is g (10 * (10 * N + (x - 48)) + 0))
padded_is g (x ∷ y ∷ []) N = ranged_is g (10 * (10 * N + (x - 48)) + (y - 48))
padded_is g (x ∷ y ∷ z ∷ f) N = rw (lt-ltb 2 (sat (length (x ∷ y ∷ z ∷ f))) (omega arith), lt-leb (length (x ∷ y ∷ z ∷ f)) 2 (omega arith))

none_is : (s : List ℕ) → eqb (sat (length s)) 0 ≡ empty s
none_is [] = refl
none_is (x ∷ s) = ne_eqb (sat (suc (length s))) 0 (λ e. omega arith)

-- the end of a walk, by what follows the whole part W: made of W and the fraction, where there is a digit, or b
module _ {A : Type 0} (e b : A) (made : Bool → ℕ → ℕ → ℕ → A) where
  parts : Bool → List ℕ → List ℕ → A
  parts g W f = made g (sat (length (W ++ f))) (cap (number 0 (W ++ f))) (sat (length f))

  counted_is : (g : Bool) (W f : List ℕ) → counted b (sat (length W + length f)) (made g (sat (length W + length f)) (cap (number (number 0 W) f)) (sat (length f))) ≡ cond (not (empty (W ++ f))) (parts g W f) b
  unfolding counted parts
  counted_is g W f = rw (← length-append W f, ← number_append W 0 f, none_is (W ++ f)) (go (empty (W ++ f)) _)
    where
      go : (p : Bool) (x : A) → cond p b x ≡ cond (not p) x b
      go true x = refl
      go false x = refl

  by_rest : (g : Bool) (W R : List ℕ) → end_of e b made (whole_end g (length W) (number 0 W) R) ≡ cond (pointed R && all_digits (past_point R)) (cond (not (empty (W ++ past_point R))) (parts g W (past_point R)) b) b
  unfolding whole_end pointed past_point all_digits number
  by_rest g W [] = rw (add-zero (length W)) at (counted_is g W [])
  by_rest g W (c ∷ f) = go (eqb c 0x2E) (all_digits f)
    where
      go : (p d : Bool) → end_of e b made (cond p (cond d (Fraction g (sat (length W + length f)) (cap (number (number 0 W) f)) (sat (length f))) Malformed) Malformed) ≡ cond (p && d) (cond (not (empty (W ++ f))) (parts g W f) b) b
      go true true = counted_is g W f
      go true false = refl
      go false d = refl

  -- the walk over all of a text ends as its grammar says
  end_run : (t : List ℕ) → end_of e b made (run Nothing t) ≡ cond (empty t) e (cond (decimal t) (parts (negative t) (whole t) (fraction t)) b)
  unfolding run decimal fraction whole
  end_run [] = refl
  end_run (c ∷ s) =
      let t = c ∷ s in
      let R = past_digits (unsigned t) in
      ap (end_of e b made) (run_start c s) ∙
      by_rest (negative t) (whole t) R ∙
      nested (pointed R && all_digits (past_point R)) (not (empty (whole t ++ past_point R))) _ _

-- the walk over all of a text ends in its amount
pub finish_run : (t : List ℕ) → amount_answer (finish_of (run Nothing t)) ≡ amount_of t
unfolding parts amount_of hundredths verdict
finish_run t = rw (end_run (Err AmountError.Empty) (Err AmountError.Malformed) (λ g k m p. padded g m p) t) (go (empty t) (decimal t))
  where
    go : (e d : Bool) →
        amount_answer (cond e (Err AmountError.Empty) (cond d (padded (negative t) (cap (number 0 (whole t ++ fraction t))) (sat (length (fraction t)))) (Err AmountError.Malformed))) ≡
        cond e silent (cond d (cond (leb (length (fraction t)) 2) (verdict (hundredths t)) (says 4)) (says 3))
    go true d = refl
    go false true = rw (number_append (whole t) 0 (fraction t), number_append (whole t) 0 (take 2 (fraction t ++ 48 ∷ 48 ∷ []))) (padded_is (negative t) (fraction t) (number 0 (whole t)))
    go false false = refl

-- 18 digits at most write a number below 10^18
below_18 : (s : List ℕ) → all_digits s ≡ true → length s ≤ 18 → number 0 s < 1000000000000000000
below_18 s e h =
    let p : 10 ^ length s ≤ 1000000000000000000 = pow-le-pow_right (lit< tt) h in
    omega (arith, number_below s 0 e)

pub front_digits : (u : List ℕ) → all_digits (digits_of u) ≡ true
unfolding all_digits digits_of
front_digits [] = refl
front_digits (b ∷ u) = go (digit b) refl (front_digits u)
  where
    go : (d : Bool) → digit b ≡ d → all_digits (digits_of u) ≡ true → all_digits (cond d (b ∷ digits_of u) []) ≡ true
    go true e r = rw e r
    go false e r = refl

-- a percentage, by its digits and how many of them are its fraction
rated_is :
    (g : Bool) (s : List ℕ) (p : ℕ) → all_digits s ≡ true → p ≤ length s →
    percentage_answer (rated g (sat (length s)) (cap (number 0 s)) (sat p)) ≡ cond (leb (length s) 18) (read (signed g (number 0 s), p)) (says 7)
unfolding rated
rated_is g s p e l =
    elim (dec_lt 18 (length s)) [
      | yes h ↦ rw (lt-ltb 18 (sat (length s)) (omega arith), lt-leb (length s) 18 h)
      | no h ↦
          let b = below_18 s e (omega arith) in
          let c : cap (number 0 s) ≡ number 0 s = omega arith in
          let q : sat p ≡ p = omega arith in
          rw (c, q, le-ltb 18 (sat (length s)) (omega arith), le-leb (length s) 18 (omega arith), lt-ltb (number 0 s) 1000000000000000000 b)
    ]

rated_or : (t : List ℕ) (d : Bool) → decimal t ≡ d → percentage_answer (cond d (parts (Err PercentageError.Malformed) (Err PercentageError.Malformed) rated (negative t) (whole t) (fraction t)) (Err PercentageError.Malformed)) ≡ percentage_of t
unfolding parts percentage_of decimal whole fraction
rated_or t true e =
    let R = past_digits (unsigned t) in
    let b = both (pointed R && all_digits (past_point R)) (not (empty (whole t ++ past_point R))) e in
    let f = (both (pointed R) (all_digits (past_point R)) b.0).1 in
    rw e (rated_is (negative t) (whole t ++ fraction t) (length (fraction t)) (all_append (whole t) (fraction t) (front_digits (unsigned t)) f) (omega (arith, length-append (whole t) (fraction t))))
rated_or t false e = rw e

-- the walk over all of a text ends in its percentage
pub rate_run : (t : List ℕ) → percentage_answer (rate_of (run Nothing t)) ≡ percentage_of t
unfolding run percentage_of decimal fraction whole unsigned past_digits digits_of past_point pointed all_digits
rate_run [] = refl
rate_run (b ∷ s) = let t = b ∷ s in ap percentage_answer (end_run (Err PercentageError.Malformed) (Err PercentageError.Malformed) rated t) ∙ rated_or t (decimal t) refl

-- the code of `parse_trimmed`, in its own terms: w is the walk over s, r its end
module _ (s : List ℕ) (w : Walk) (ew : w ≡ run Nothing s) where
  pub amount_read : (r : Result InvoiceAmount AmountError) → r ≡ finish_of w → amount_answer r ≡ amount_of s
  amount_read r e = ap amount_answer e ∙ rw ew (finish_run s)

  pub percentage_read : (r : Result Percentage PercentageError) → r ≡ rate_of w → percentage_answer r ≡ percentage_of s
  percentage_read r e = ap percentage_answer e ∙ rw ew (rate_run s)

-- the code of `parse`: t is what trimming left
module _ (s : List ℕ) (mode : ℕ) (t : List ℕ) (et : t ≡ trim_of mode s) where
  pub amount_parsed : (a : Answer ℤ) → a ≡ amount_of t → a ≡ parsed_amount mode s
  unfolding parsed_amount
  amount_parsed a e = e ∙ rw et

  pub percentage_parsed : (a : Answer (ℤ × ℕ)) → a ≡ percentage_of t → a ≡ parsed_percentage mode s
  unfolding parsed_percentage
  percentage_parsed a e = e ∙ rw et
