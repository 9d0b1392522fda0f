-- What the machine reads back of a signed 64-bit number, and a sign with a size.
use mathlib.Core.Path.{◌≡◌, refl, ◌∙◌, ap}
use mathlib.Core.Bool.{true}
use Prim.Native.Nat.{ℕ, zero, suc, ◌-◌, ◌≤◌, ◌<◌, ◌^◌}
use native.Mathlib.Omega.{arith}
use lib.Signed.{mag}
use lib.IntN.{ℤ, pos, negsuc, ◌-ℤ◌}
use mir.Syntax.{w64}
use mir.Val.{SFits, to_z, of_z}
use mir.Facts.{to_z-of_z, to_z_pos}
use Rattle.amount.specs.Decimal.{signed}

from_minus_one : (k : ℕ) → negsuc 0 -ℤ pos k ≡ negsuc k
from_minus_one zero = refl
from_minus_one (suc k) = ap negsuc (omega arith)

-- -1 - k
module _ {k : ℕ} (h : k < 2 ^ 63) where
  less_is : negsuc 0 -ℤ to_z w64 k ≡ negsuc k
  less_is = rw (to_z_pos w64 h) (from_minus_one k)

  pub less_fits : SFits w64 (negsuc 0 -ℤ to_z w64 k)
  less_fits = rw less_is (record { sfits = h })

  pub less_read : to_z w64 (of_z w64 (negsuc 0 -ℤ to_z w64 k)) ≡ negsuc k
  less_read = to_z-of_z less_fits ∙ less_is

-- a signed result of a call, passed on or stored
pub read64 : (z : ℤ) → mag z < 2 ^ 63 → to_z w64 (of_z w64 z) ≡ z
read64 z h = to_z-of_z {w = w64} (record { sfits = h })

pub neg_read : (m : ℕ) → m ≤ 2 ^ 63 → (m ≡ 0 → ⊥) → {z : ℤ} → z ≡ negsuc (m - 1) → to_z w64 (of_z w64 z) ≡ signed true m
unfolding signed
neg_read zero h n e = absurd (n refl)
neg_read (suc k) h n {z} e =
    let q : suc k - 1 ≡ k = omega arith in
    let e' : z ≡ negsuc k = e ∙ ap negsuc q in
    rw e' (read64 (negsuc k) (omega arith))

pub neg_zero : (m : ℕ) → m ≡ 0 → pos 0 ≡ signed true m
unfolding signed
neg_zero m e = rw e
