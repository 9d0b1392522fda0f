-- Laws of rows one after the other.
use mathlib.Core.Path.{◌≡◌, refl, sym, ap, ◌∙◌}
use mathlib.Core.List.{List, [], ◌∷◌, ◌++◌, map, append-nil, append_assoc}
use Prim.Native.Nat.{ℕ, suc, ◌*◌}
use native.Mathlib.Omega.{arith}
use native.Mathlib.Nat.{suc-mul}
use lib.IntN.{ℤ}
use lib.ListN.{length, drop, length-append}
use lib.Seq.{take_at, drop_at}
use Rattle.report.specs.Encoding.{rows_of, rows_then, cut_rows}
use Rattle.report.specs.Placed.{Placed}
use Rattle.report.proofs.Cells.{as_row}
use Rattle.report.proofs.Placing.{placed_none, placed_then}

module _ {A : Type 0} (row : A → List ℤ) where
  -- rows of one width have so many numbers
  pub rows_length : (w : ℕ) → ((a : A) → length (row a) ≡ w) → (l : List A) → length (rows_of row l) ≡ length l * w
  unfolding rows_of
  rows_length w h [] = omega arith
  rows_length w h (a ∷ l) = length-append (row a) (rows_of row l) ∙ rw (h a, rows_length w h l, suc-mul (length l) w) (omega arith)

  -- those of two lists
  pub rows_append : (l m : List A) → rows_of row (l ++ m) ≡ rows_of row l ++ rows_of row m
  unfolding rows_of
  rows_append [] m = refl
  rows_append (a ∷ l) m = ap (λ (r : List ℤ). row a ++ r) (rows_append l m) ∙ sym (append_assoc (row a) (rows_of row l) (rows_of row m))

  -- none was put
  pub rows_none : (l : List ℤ) (at : ℕ) → Placed l at (rows_of row []) l at
  unfolding rows_of
  rows_none l at = placed_none l at

  -- one was put
  pub rows_one : (a : A) {l l' : List ℤ} {at r : ℕ} → Placed l at (row a) l' r → Placed l at (rows_of row (a ∷ [])) l' r
  unfolding rows_of
  rows_one a {l} {l'} {at} p = as_row l at (sym (append-nil (row a))) p

  -- one list's, then the other's
  pub rows-then : (a b : List A) {l l' l'' : List ℤ} {at m r : ℕ} → Placed l at (rows_of row a) l' m → Placed l' m (rows_of row b) l'' r → Placed l at (rows_of row (a ++ b)) l'' r
  rows-then a b {l} {l'} {l''} {at} p q = as_row l at (sym (rows_append a b)) (placed_then p q)

  -- rows cut back are those that were put
  cut_back : (w : ℕ) → ((a : A) → length (row a) ≡ w) → (l : List A) (rest : List ℤ) → cut_rows w (length l) (rows_of row l ++ rest) ≡ map row l
  unfolding cut_rows rows_of
  cut_back w h [] rest = refl
  cut_back w h (a ∷ l) rest =
      ap (cut_rows w (suc (length l))) (append_assoc (row a) (rows_of row l) rest) ∙
      rw (take_at (row a) (rows_of row l ++ rest) w (h a), drop_at (row a) (rows_of row l ++ rest) w (h a), cut_back w h l rest)

  -- in a list at exit, as many as are answered
  pub cut_exit : (w : ℕ) → ((a : A) → length (row a) ≡ w) → (l : List A) {n : ℕ} (before : List ℤ) {after : List ℤ} → n ≡ length l → after ≡ rows_then (rows_of row l) before → cut_rows w n after ≡ map row l
  cut_exit w h l before e f = rw (e, f) (cut_back w h l (drop (length (rows_of row l)) before))
