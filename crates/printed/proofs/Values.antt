-- What the numbers of a value show is the value.
use mathlib.Core.Path.{◌≡◌, refl, ap}
use mathlib.Core.List.{List}
use mathlib.Core.Option.{Option, none, some, map}
use Prim.Native.Nat.{ℕ}
use lib.IntN.{ℤ}
use Rattle.report.specs.Rows.{Place}
use Rattle.report.specs.Encoding.{place_start, place_length, text_start, text_length, unscaled, scale, present, hundredths, or_absent}
use Rattle.settlement.specs.TableDoc.{shows}
use Rattle.settlement.proofs.Results.{tidy_shows}
use Rattle.decimals.specs.Decimal.{decimal, signed, natural}
use Rattle.fields.specs.Line.{printable, percentage}
use Rattle.fields.specs.Columns.{text_shown, percent_shown, amount_shown, date_shown}

module _ (x : List ℕ) where
  pub place_shown : (p : Place) → text_shown x (place_start p) (place_length p) ≡ some (printable (shows x p))
  unfolding text_shown
  place_shown p = ap (λ (s : List ℕ). some (printable s)) (tidy_shows x p)

  pub text-shown : (t : Option Place) → text_shown x (text_start t) (text_length t) ≡ map printable (map (shows x) t)
  unfolding text_shown
  text-shown none = refl
  text-shown (some p) = place_shown p

pub amount-shown : (a : Option ℤ) → amount_shown (present a) (hundredths a) ≡ map signed a
unfolding amount_shown natural
amount-shown none = refl
amount-shown (some a) = refl

pub percent-shown : (q : Option (ℤ × ℕ)) → percent_shown (unscaled q) (scale q) ≡ map (λ p. percentage p.0 p.1) q
unfolding percent_shown
percent-shown none = refl
percent-shown (some q) = refl

pub date-shown : (d : Option ℕ) → date_shown (or_absent d) ≡ map decimal d
unfolding date_shown
date-shown none = refl
date-shown (some n) = refl
