-- What is wrong with a currencyID, test by test.
use mathlib.Core.Path.{◌≡◌, refl}
use mathlib.Core.Bool.{Bool, true, false, cond, ◌||◌}
use mathlib.Core.List.{List, [], ◌∷◌}
use mathlib.Core.Option.{none, some}
use Prim.Native.Nat.{ℕ}
use native.Mathlib.Omega.{arith}
use lib.ListN.{length}
use Rattle.text.specs.Order.{equal}
use Rattle.amount.specs.Decimal.{empty}
use Rattle.codes.specs.Currency.{listed}
use Rattle.names.specs.declared.message.Message.{Message}
use Rattle.settlement.specs.Values.{wrong_currency}

module _ {b : Bool} (u c : List ℕ) (e : b ≡ listed c) where
  pub not_listed : b ≡ false → some Message.UnlistedCurrency ≡ wrong_currency u c
  unfolding wrong_currency
  not_listed f = rw (← e, f)

  pub no_currency : b ≡ true → length u ≡ 0 → none ≡ wrong_currency u c
  unfolding wrong_currency
  no_currency f z = rw (← e, f) (go u (equal u c) z)
    where
      go : (u : List ℕ) (p : Bool) → length u ≡ 0 → none ≡ cond (empty u || p) none (some Message.OtherCurrency)
      go [] p z = refl
      go (a ∷ u) p z = absurd (omega arith)

  pub same_currency : {d : Bool} → b ≡ true → d ≡ equal u c → d ≡ true → none ≡ wrong_currency u c
  unfolding wrong_currency
  same_currency f g h = rw (← e, f, ← g, h) (go u)
    where
      go : (u : List ℕ) → none ≡ cond (empty u || true) none (some Message.OtherCurrency)
      go [] = refl
      go (a ∷ u) = refl

  pub other_currency : {d : Bool} → b ≡ true → (length u ≡ 0 → ⊥) → d ≡ equal u c → d ≡ false → some Message.OtherCurrency ≡ wrong_currency u c
  unfolding wrong_currency
  other_currency f z g h = rw (← e, f, ← g, h) (go u z)
    where
      go : (u : List ℕ) → (length u ≡ 0 → ⊥) → some Message.OtherCurrency ≡ cond (empty u || false) none (some Message.OtherCurrency)
      go [] z = absurd (z refl)
      go (a ∷ u) z = refl
