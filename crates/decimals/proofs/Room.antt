-- How long a number is in decimal digits.
use mathlib.Core.Path.{◌≡◌, refl}
use mathlib.Core.Bool.{Bool, true, false}
use Prim.Native.Nat.{ℕ, zero, suc, ◌/◌, ◌^◌, ◌≤◌, ◌<◌}
use native.Mathlib.Omega.{arith}
use native.Mathlib.Nat.{pow-succ'}
use borrow.Author.Tests.{ltb-true, ltb-false}
use lib.Dec.{ltb}
use lib.IntN.{ℤ, pos, negsuc}
use lib.Signed.{mag}
use lib.ListN.{length, length-append}
use Rattle.decimals.specs.Decimal.{spelled, decimal, signed}
use Rattle.decimals.proofs.Spelling.{spelled_one, spelled_more}

-- a number below 10 ^ k has at most k digits
spelled_length : (f n k : ℕ) → n < 10 ^ suc k → length (spelled f n) ≤ suc k
unfolding spelled
spelled_length zero n k h = omega arith
spelled_length (suc f) n k h = go (ltb n 10) refl k h (spelled_length f (n / 10))
  where
    go : (b : Bool) → ltb n 10 ≡ b → (k : ℕ) → n < 10 ^ suc k → ((j : ℕ) → n / 10 < 10 ^ suc j → length (spelled f (n / 10)) ≤ suc j) → length (spelled (suc f) n) ≤ suc k
    go true e k h r = rw (spelled_one f n (ltb-true n 10 e)) (omega arith)
    go false e zero h r = absurd (omega (arith, ltb-false n 10 e))
    go false e (suc j) h r =
        let p = pow-succ' 10 (suc j) in
        rw (spelled_more f n (ltb-false n 10 e), length-append) (omega (arith, r j (omega arith)))

pub decimal_length : (n k : ℕ) → n < 10 ^ suc k → length (decimal n) ≤ suc k
unfolding decimal
decimal_length n k h = spelled_length (suc n) n k h

pub signed_length : (z : ℤ) → mag z < 2 ^ 63 → length (signed z) ≤ 20
unfolding signed
signed_length (pos n) h = omega (arith, decimal_length n 18 (omega arith))
signed_length (negsuc n) h = omega (arith, decimal_length (suc n) 18 (omega arith))
