-- The length of a month, by the months that have it.
use mathlib.Core.Path.{◌≡◌}
use mathlib.Core.Logic.{inl, inr}
use mathlib.Core.Bool.{cond}
use mathlib.Core.List.{[], ◌∷◌}
use Prim.Native.Nat.{ℕ}
use borrow.Author.Tests.{ne_eqb}
use types.Run.{OneOf}
use Rattle.date.specs.Date.{leap, days}

module _ (y m : ℕ) where
  pub days_february : (n : ℕ) → m ≡ 2 → n ≡ cond (leap y) 29 28 → n ≡ days y m
  unfolding days
  days_february n e q = rw (e, q)

  pub days_thirty : OneOf (4 ∷ 6 ∷ 9 ∷ 11 ∷ []) m → 30 ≡ days y m
  unfolding days
  days_thirty (inl e) = rw e
  days_thirty (inr (inl e)) = rw e
  days_thirty (inr (inr (inl e))) = rw e
  days_thirty (inr (inr (inr e))) = rw e

  pub days_others : (m ≡ 2 → ⊥) → (OneOf (4 ∷ 6 ∷ 9 ∷ 11 ∷ []) m → ⊥) → 31 ≡ days y m
  unfolding days
  days_others f o =
      rw (ne_eqb m 2 f, ne_eqb m 4 (λ e. o (inl e)), ne_eqb m 6 (λ e. o (inr (inl e))), ne_eqb m 9 (λ e. o (inr (inr (inl e)))), ne_eqb m 11 (λ e. o (inr (inr (inr e)))))
