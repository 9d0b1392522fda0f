-- The number of eight digits is the definition's date.
use mathlib.Core.Path.{◌≡◌, refl, ◌∙◌}
use mathlib.Core.Bool.{true, false}
use mathlib.Core.List.{List}
use Prim.Native.Nat.{ℕ}
use native.Mathlib.Omega.{arith}
use borrow.Author.Tests.{ne_eqb}
use lib.ListN.{length}
use Rattle.text.specs.Answer.{Answer, says}
use Rattle.text.specs.Digits.{all_digits, numeral_of}
use Rattle.text.specs.Range.{within}
use Rattle.text.proofs.Digits.{is_numeral, no_numeral}
use Rattle.characters.specs.Trim.{trim_of}
use Rattle.date.specs.Date.{eight_digits, numbered, date_of, parsed_date}
use Rattle.date.proofs.Parts.{year_is, month_is, day_is}
use mathlib.Core.Option.{none}
use Rattle.date.specs.declared.DateError.{DateError}
use Rattle.date.specs.declared.DateError.TheVariants.{Malformed, NotACalendarDay}
use Rattle.date.specs.Answers.{date_answer}
use Rattle.std.specs.Prelude.{Option, None, Some, Err}

-- a text of another length
pub date_length : (t : List ℕ) → (length t ≡ 8 → ⊥) → says 12 ≡ date_of t
unfolding date_of eight_digits
date_length t n = rw (ne_eqb (length t) 8 n)

-- eight bytes, of which x is the number or none
module _ (t : List ℕ) (l : length t ≡ 8) (x : Option ℕ) (e : x ≡ numeral_of 8 t) where
  pub date_none : x ≡ None → says 12 ≡ date_of t
  unfolding date_of eight_digits within
  date_none q =
      let f : all_digits t ≡ false = rw l at (no_numeral 8 t e (omega arith) q) in
      rw (l, f)

  pub date_some : (n : ℕ) → x ≡ Some n → (a : Answer ℕ) → a ≡ numbered n → a ≡ date_of t
  unfolding date_of eight_digits numbered within
  date_some n q a r =
      let k = is_numeral 8 t e q in
      let f : all_digits t ≡ true = rw l at k.0 in
      r ∙ rw (l, f, ← k.1, year_is t l f, month_is t l f, day_is t l f)

-- the date of what trimming left
pub parsed_trimmed : (s : List ℕ) (mode : ℕ) (t : List ℕ) → t ≡ trim_of mode s → (a : Answer ℕ) → a ≡ date_of t → a ≡ parsed_date mode s
unfolding parsed_date
parsed_trimmed s mode t e a q = q ∙ rw e

-- an error has no value
pub no_date : (e : DateError) → (date_answer (Err e)).value ≡ none
no_date Malformed = refl
no_date NotACalendarDay = refl
