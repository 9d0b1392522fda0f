-- What the machine reads back of a signed 64-bit number, and its two cases.
use mathlib.Core.Path.{◌≡◌, refl}
use mathlib.Core.Bool.{true, false}
use Prim.Native.Nat.{ℕ, ◌<◌, ◌^◌}
use native.Mathlib.Omega.{arith}
use borrow.Author.Tests.{ltb-true}
use lib.Signed.{lt_z}
use lib.IntN.{ℤ, pos, negsuc}
use mir.Syntax.{w64}
use mir.Val.{SFits, to_z, of_z}
use mir.Facts.{to_z-of_z}
use Rattle.text.proofs.Bools.{not_both}

-- a signed number that is passed on or read back
abbrev pub held : ℤ → ℤ
held z = to_z w64 (of_z w64 z)

module _ {z : ℤ} (f : SFits w64 z) where
  module _ (e : lt_z (held z) (pos 0) ≡ true) where
    pub below : (k : ℕ) × (z ≡ negsuc k) × (k < 2 ^ 63)
    below = go z f (rw (to_z-of_z f) at e)
      where
        go : (y : ℤ) → SFits w64 y → lt_z y (pos 0) ≡ true → (k : ℕ) × (y ≡ negsuc k) × (k < 2 ^ 63)
        go (pos n) g t = absurd (omega (arith, ltb-true n 0 t))
        go (negsuc k) g t = (k, refl, g.sfits)

  module _ (e : lt_z (held z) (pos 0) ≡ false) where
    pub above : (n : ℕ) × (z ≡ pos n) × (n < 2 ^ 63)
    above = go z f (rw (to_z-of_z f) at e)
      where
        go : (y : ℤ) → SFits w64 y → lt_z y (pos 0) ≡ false → (n : ℕ) × (y ≡ pos n) × (n < 2 ^ 63)
        go (pos n) g t = (n, refl, g.sfits)
        go (negsuc k) g t = absurd (not_both refl t)
