-- A place by the signs of its two numbers, as the machine reads them back.
use mathlib.Core.Path.{◌≡◌, refl, sym, ◌∙◌}
use mathlib.Core.Bool.{Bool, true, false}
use mathlib.Core.List.{List, []}
use Prim.Native.Nat.{ℕ, ◌+◌, ◌-◌, ◌<◌, ◌≤◌, ◌^◌}
use native.Mathlib.Omega.{arith}
use borrow.Author.Tests.{ltb-true, leb-true, leb-false, le-leb, lt-leb}
use lib.Dec.{leb}
use lib.Signed.{lt_z}
use lib.IntN.{ℤ, pos, negsuc, nat_abs}
use lib.ListN.{length}
use mir.Syntax.{w64}
use mir.Val.{SFits, to_z, of_z}
use mir.Facts.{to_z-of_z}
use Rattle.text.proofs.Bools.{not_both}
use Rattle.text.specs.Span.{part_of}
use Rattle.view.specs.View.{lies, shown_at}

module _ {z : ℤ} (f : SFits w64 z) where
  below : lt_z (to_z w64 (of_z w64 z)) (pos 0) ≡ true → (k : ℕ) × (z ≡ negsuc k)
  below e = go z (rw (to_z-of_z f) at e)
    where
      go : (y : ℤ) → lt_z y (pos 0) ≡ true → (k : ℕ) × (y ≡ negsuc k)
      go (pos n) t = absurd (omega (arith, ltb-true n 0 t))
      go (negsuc k) t = (k, refl)

  above : lt_z (to_z w64 (of_z w64 z)) (pos 0) ≡ false → (n : ℕ) × (z ≡ pos n) × (n < 2 ^ 63)
  above e = go z f (rw (to_z-of_z f) at e)
    where
      go : (y : ℤ) → SFits w64 y → lt_z y (pos 0) ≡ false → (n : ℕ) × (y ≡ pos n) × (n < 2 ^ 63)
      go (pos n) g t = (n, refl, g.sfits)
      go (negsuc k) g t = absurd (not_both refl t)

left_over : (k m l : ℕ) → k ≤ l → leb m (l - k) ≡ leb (k + m) l
left_over k m l h = go (leb (k + m) l) refl
  where
    go : (b : Bool) → leb (k + m) l ≡ b → leb m (l - k) ≡ leb (k + m) l
    go true q = le-leb m (l - k) (omega (arith, leb-true (k + m) l q)) ∙ sym q
    go false q = lt-leb m (l - k) (omega (arith, leb-false (k + m) l q)) ∙ sym q

-- the place that starts at a and is n bytes long, in the text s
module _ (s : List ℕ) (a n : ℤ) (fa : SFits w64 a) where
  pub no_start : lt_z (to_z w64 (of_z w64 a)) (pos 0) ≡ true → (false ≡ lies s a n) × ([] ≡ shown_at s a n)
  unfolding lies shown_at
  no_start e = rw (below fa e).1 (refl, refl)

  module _ (fn : SFits w64 n) (ea : lt_z (to_z w64 (of_z w64 a)) (pos 0) ≡ false) where
    pub no_length : lt_z (to_z w64 (of_z w64 n)) (pos 0) ≡ true → (false ≡ lies s a n) × ([] ≡ shown_at s a n)
    unfolding lies shown_at
    no_length e = rw ((above fa ea).1, (below fn e).1) (refl, refl)

    module _ (en : lt_z (to_z w64 (of_z w64 n)) (pos 0) ≡ false) where
      pub past : length s < nat_abs (to_z w64 (of_z w64 a)) → leb (nat_abs (to_z w64 (of_z w64 a))) (length s) ≡ lies s a n
      unfolding lies
      past h =
          let k = (above fa ea).0 in
          let l : length s < k = rw (to_z-of_z fa, (above fa ea).1) at h in
          lt-leb _ (length s) h ∙ rw ((above fa ea).1, (above fn en).1) (sym (lt-leb (k + (above fn en).0) (length s) (omega (arith, l))))

      pub room : nat_abs (to_z w64 (of_z w64 a)) ≤ length s → leb (nat_abs (to_z w64 (of_z w64 n))) (length s - nat_abs (to_z w64 (of_z w64 a))) ≡ lies s a n
      unfolding lies
      room h =
          let l : (above fa ea).0 ≤ length s = rw (to_z-of_z fa, (above fa ea).1) at h in
          rw (to_z-of_z fa, to_z-of_z fn, (above fa ea).1, (above fn en).1) (left_over (above fa ea).0 (above fn en).0 (length s) l)

      pub there : (r : List ℕ) → r ≡ part_of s (nat_abs (to_z w64 (of_z w64 a))) (nat_abs (to_z w64 (of_z w64 n))) → r ≡ shown_at s a n
      unfolding shown_at
      there r e = rw ((above fa ea).1, (above fn en).1) (rw (to_z-of_z fa, to_z-of_z fn, (above fa ea).1, (above fn en).1) at e)

-- where nothing is there, nothing is shown
pub not_there : (s : List ℕ) (a n : ℤ) → lies s a n ≡ false → shown_at s a n ≡ []
unfolding lies shown_at part_of
not_there s (pos a) (pos n) e = rw e
not_there s (pos a) (negsuc n) e = refl
not_there s (negsuc a) n e = refl
