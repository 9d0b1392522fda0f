-- Eight digits, and the year, the month and the day of the number that they write.
use mathlib.Core.Path.{◌≡◌, refl, sym, ◌∙◌, ap}
use mathlib.Core.Bool.{true}
use mathlib.Core.List.{List, [], ◌∷◌, ◌++◌}
use Prim.Native.Nat.{ℕ, ◌+◌, ◌*◌, ◌-◌, ◌/◌, ◌%◌, ◌^◌, ◌<◌}
use native.Mathlib.Omega.{arith}
use native.Mathlib.Nat.{pow-succ'}
use lib.ListN.{length, take, drop, length-take, length-drop, take-append-drop}
use lib.Seq.{drop-drop}
use Rattle.text.specs.Digits.{digit, all_digits, number}
use Rattle.text.proofs.Bools.{both}
use Rattle.text.proofs.Digits.{number_append, number_below}
use Rattle.date.specs.Date.{year, month, day}

-- the digits of a text are those of its parts
all_parts : (s t : List ℕ) → all_digits (s ++ t) ≡ true → (all_digits s ≡ true) × (all_digits t ≡ true)
unfolding all_digits
all_parts [] t e = (refl, e)
all_parts (b ∷ s) t e =
    let d = both (digit b) (all_digits (s ++ t)) e in
    let p = all_parts s t d.1 in
    (rw d.0 p.0, p.1)

all_split : (k : ℕ) (t : List ℕ) → all_digits t ≡ true → (all_digits (take k t) ≡ true) × (all_digits (drop k t) ≡ true)
all_split k t e = all_parts (take k t) (drop k t) (rw take-append-drop e)

-- the digits after n write n moved to the left by their count
number_after : (s : List ℕ) (n : ℕ) → number n s ≡ n * 10 ^ length s + number 0 s
unfolding number
number_after [] n = omega arith
number_after (b ∷ s) n =
    let p : number n (b ∷ s) ≡ (10 * n + (b - 48)) * 10 ^ length s + number 0 s = number_after s (10 * n + (b - 48)) in
    let q : number 0 (b ∷ s) ≡ (10 * 0 + (b - 48)) * 10 ^ length s + number 0 s = number_after s (10 * 0 + (b - 48)) in
    rw (pow-succ' 10 (length s)) (omega arith)

number_split : (k : ℕ) (t : List ℕ) (n : ℕ) → number n t ≡ number (number n (take k t)) (drop k t)
number_split k t n = ap (number n) (sym (take-append-drop k t)) ∙ number_append (take k t) n (drop k t)

-- two digits
two_below : (s : List ℕ) → length s ≡ 2 → all_digits s ≡ true → number 0 s < 100
two_below s l e = rw l at (number_below s 0 e)

two_after : (s : List ℕ) (n : ℕ) → length s ≡ 2 → number n s ≡ n * 100 + number 0 s
two_after s n l = rw l at (number_after s n)

module _ (t : List ℕ) (l : length t ≡ 8) (e : all_digits t ≡ true) where
  month_length : length (take 2 (drop 4 t)) ≡ 2
  month_length = simp (length-take, length-drop, l)

  day_length : length (drop 6 t) ≡ 2
  day_length = simp (length-drop, l)

  month_below : month t < 100
  unfolding month
  month_below = two_below (take 2 (drop 4 t)) month_length (all_split 2 (drop 4 t) (all_split 4 t e).1).0

  day_below : day t < 100
  unfolding day
  day_below = two_below (drop 6 t) day_length (all_split 6 t e).1

  -- CCYY, MM and DD put together
  number_parts : number 0 t ≡ (year t * 100 + month t) * 100 + day t
  unfolding year month day
  number_parts =
      let p = number_split 4 t 0 in
      let q = number_split 2 (drop 4 t) (number 0 (take 4 t)) in
      let d = drop-drop 2 4 t in
      let m = two_after (take 2 (drop 4 t)) (number 0 (take 4 t)) month_length in
      let r = two_after (drop 6 t) (number (number 0 (take 4 t)) (take 2 (drop 4 t))) day_length in
      p ∙ q ∙ rw d (r ∙ rw m)

  pub year_is : number 0 t / 10000 ≡ year t
  year_is = let p = number_parts in let m = month_below in let d = day_below in omega arith

  pub month_is : number 0 t / 100 % 100 ≡ month t
  month_is = let p = number_parts in let m = month_below in let d = day_below in omega arith

  pub day_is : number 0 t % 100 ≡ day t
  day_is = let p = number_parts in let m = month_below in let d = day_below in omega arith
