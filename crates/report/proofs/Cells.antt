-- A row that the code made, number by number.
use mathlib.Core.Path.{◌≡◌, ◌∙◌, ap}
use mathlib.Core.List.{List, ◌∷◌}
use Prim.Native.Nat.{ℕ, ◌<◌, ◌^◌}
use lib.IntN.{ℤ, pos}
use lib.ListN.{length}
use lib.Signed.{mag}
use mir.Syntax.{w64}
use mir.Val.{to_z, of_z}
use Rattle.amount.proofs.Signs.{read64}
use Rattle.names.specs.Put.{put}
use Rattle.report.specs.Placed.{behind, Placed}

-- a signed result of a call, passed on
pub carried : {z y : ℤ} → mag z < 2 ^ 63 → z ≡ y → to_z w64 (of_z w64 z) ≡ y
carried {z} f e = read64 z f ∙ e

-- a number of the row that a call gave
pub cell : {z y : ℤ} {vs ws : List ℤ} → mag z < 2 ^ 63 → z ≡ y → vs ≡ ws → to_z w64 (of_z w64 z) ∷ vs ≡ y ∷ ws
cell f e p = rw (carried f e, p)

-- the same, where the call was given what another call gave
pub cell-of : {z : ℤ} {n m : ℕ} {vs ws : List ℤ} → mag z < 2 ^ 63 → n ≡ m → z ≡ pos n → vs ≡ ws → to_z w64 (of_z w64 z) ∷ vs ≡ pos m ∷ ws
cell-of f q e p = rw (carried f e, q, p)

-- a number that is written
pub literal : {z : ℤ} {vs ws : List ℤ} → vs ≡ ws → z ∷ vs ≡ z ∷ ws
literal p = rw p

-- a row that is put, once its numbers are known
pub as_row : (l : List ℤ) (at : ℕ) {l' vs ws : List ℤ} {r : ℕ} → vs ≡ ws → Placed l at vs l' r → Placed l at ws l' r
as_row l at p e = record { now = e.now ∙ ap (put l at) p; end = e.end ∙ ap (λ (vs : List ℤ). behind (length l) at (length vs)) p }
