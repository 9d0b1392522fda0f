-- Laws of the walk: the turns of its loop, and a walk that is taken up again.
use mathlib.Core.Path.{◌≡◌, refl, sym, ap, ◌∙◌}
use mathlib.Core.Bool.{Bool, true, false, cond}
use mathlib.Core.List.{List, [], ◌∷◌, ◌++◌, foldl-append}
use Prim.Native.Nat.{ℕ, ◌+◌, ◌≤◌, ◌<◌}
use native.Mathlib.Numerals.{add-one}
use lib.Dec.{eqb}
use lib.ListN.{length, get_or, drop, drop_of_length-le}
use lib.Seq.{drop-cons}
use Rattle.text.specs.Digits.{digit}
use Rattle.text.specs.Range.{within}
use Rattle.amount.specs.declared.decimal.Walk.{Walk}
use Rattle.amount.specs.declared.decimal.Walk.TheVariants.{Nothing, Whole, Fraction, Malformed}
use Rattle.amount.specs.declared.decimal.Decimal.{Decimal}
use Rattle.std.specs.Prelude.{Option, None, Some}
use Rattle.amount.specs.Walk.{step_of, run, with_digits, decimal_at, counted, end_of}

pub zero_digit : digit 48 ≡ true
unfolding digit within
zero_digit = refl

-- what is malformed stays so
pub run_malformed : (s : List ℕ) → run Malformed s ≡ Malformed
unfolding run
run_malformed [] = refl
run_malformed (b ∷ s) = run_malformed s

-- the loop of a walk, from i on: a turn, one after which it is left, and the end
module _ (s : List ℕ) (i : ℕ) (w₀ w : Walk) (e : run w₀ s ≡ run w (drop i s)) where
  pub run_on : i < length s → (v : Walk) → v ≡ step_of w (get_or s i 0) → run w₀ s ≡ run v (drop (i + 1) s)
  unfolding run
  run_on h v q = e ∙ rw (add-one, drop-cons s i 0, q)

  pub run_left : i < length s → (v : Walk) → v ≡ step_of w (get_or s i 0) → v ≡ Malformed → v ≡ run w₀ s
  run_left h v q p = p ∙ sym (run_on h v q ∙ ap (λ (x : Walk). run x (drop (i + 1) s)) p ∙ run_malformed (drop (i + 1) s))

  pub run_end : length s ≤ i → w ≡ run w₀ s
  unfolding run
  run_end h = sym (e ∙ rw (drop_of_length-le s h))

-- a walk stopped after any byte and taken up again from its state ends as the unbroken one
pub run_append : (s t : List ℕ) (w : Walk) → run w (s ++ t) ≡ run (run w s) t
unfolding run
run_append s t w = foldl-append step_of w s t

-- the end of a walk, by the decimal that was read
module _ {A : Type 0} (e b : A) (made : Bool → ℕ → ℕ → ℕ → A) where
  end_digits : (g : Bool) (k m p : ℕ) (d : Decimal) → with_digits g k m p ≡ Some d → made d.negative d.digits d.size d.decimals ≡ counted b k (made g k m p)
  unfolding with_digits counted
  end_digits g k m p d h = go (eqb k 0) h
    where
      go : (t : Bool) → cond {A = Option Decimal} t None (Some (record { negative = g; digits = k; size = m; decimals = p })) ≡ Some d → made d.negative d.digits d.size d.decimals ≡ cond t b (made g k m p)
      go true h = cc
      go false h = cc

  end_no_digits : (g : Bool) (k m p : ℕ) → with_digits g k m p ≡ None → b ≡ counted b k (made g k m p)
  unfolding with_digits counted
  end_no_digits g k m p h = go (eqb k 0) h
    where
      go : (t : Bool) → cond {A = Option Decimal} t None (Some (record { negative = g; digits = k; size = m; decimals = p })) ≡ None → b ≡ cond t b (made g k m p)
      go true h = refl
      go false h = cc

  pub end_some : (w : Walk) (d : Decimal) → decimal_at w ≡ Some d → made d.negative d.digits d.size d.decimals ≡ end_of e b made w
  end_some Nothing d h = cc
  end_some (Whole g k m) d h = end_digits g k m 0 d h
  end_some (Fraction g k m p) d h = end_digits g k m p d h
  end_some Malformed d h = cc

  pub end_none : (w : Walk) → (w ≡ Nothing → e ≡ b) → decimal_at w ≡ None → b ≡ end_of e b made w
  end_none Nothing n h = sym (n refl)
  end_none (Whole g k m) n h = end_no_digits g k m 0 h
  end_none (Fraction g k m p) n h = end_no_digits g k m p h
  end_none Malformed n h = refl
