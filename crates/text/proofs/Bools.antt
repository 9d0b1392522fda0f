-- Laws of tests.
use mathlib.Core.Path.{◌≡◌, refl}
use mathlib.Core.Bool.{Bool, true, false, cond, ◌&&◌}
use Prim.Native.Nat.{ℕ}
use native.Mathlib.Omega.{arith}

-- both tests of an "and" that passed
pub both : (p q : Bool) → (p && q) ≡ true → (p ≡ true) × (q ≡ true)
both true q e = (refl, e)
both false q e = (cc, cc)

-- a test does not pass and fail
pub not_both : {p : Bool} → p ≡ true → p ≡ false → ⊥
not_both e f = let w : ◌≡◌ {A = ℕ} 0 1 = cc in omega arith

-- what a function answered, and that its answer passed
pub passed : {p q : Bool} → p ≡ q → p ≡ true → q ≡ true
passed e f = cc

-- two tests with the same way out
pub nested : {A : Type 0} (p q : Bool) (x y : A) → cond p (cond q x y) y ≡ cond (p && q) x y
nested true q x y = refl
nested false q x y = refl
