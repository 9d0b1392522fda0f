-- Laws of ranges.
use mathlib.Core.Path.{◌≡◌, refl}
use mathlib.Core.Bool.{Bool, true, false, ◌&&◌}
use Prim.Native.Nat.{ℕ, ◌≤◌, ◌<◌}
use borrow.Author.Tests.{leb-true, le-leb, lt-leb}
use lib.Dec.{leb}
use Rattle.text.specs.Range.{within}
use Rattle.text.proofs.Bools.{both}

module _ (c first last : ℕ) where
  pub within_range : within c first last ≡ true → (first ≤ c) × (c ≤ last)
  unfolding within
  within_range e = let b = both (leb first c) (leb c last) e in (leb-true first c b.0, leb-true c last b.1)

  pub within_yes : first ≤ c → c ≤ last → within c first last ≡ true
  unfolding within
  within_yes h h' = rw (le-leb first c h, le-leb c last h')

  pub within_below : c < first → within c first last ≡ false
  unfolding within
  within_below h = rw (lt-leb first c h)

  pub within_above : last < c → within c first last ≡ false
  unfolding within
  within_above h = go (leb first c)
    where
      go : (p : Bool) → (p && leb c last) ≡ false
      go true = lt-leb c last h
      go false = refl
