-- Rows that stand one after the other at the front of a list, read back.
use mathlib.Core.Path.{◌≡◌, sym, ap, ◌∙◌}
use mathlib.Core.List.{List, [], ◌∷◌, ◌++◌}
use Prim.Native.Nat.{ℕ, zero, suc, ◌+◌, ◌*◌, ◌≤◌, ◌<◌}
use native.Mathlib.Omega.{arith}
use lib.IntN.{ℤ, pos}
use lib.ListN.{length, get_or, take, drop, length-append, take-append-drop, get_or-append}
use lib.Seq.{slice, get_or-append-add, length-take-le, take_at, drop_at}
use Rattle.names.specs.Put.{put}
use Rattle.names.proofs.Puts.{put_put, put_eq, put_at, put_again}
use Rattle.report.specs.Rows.{Place, Unmapped}
use Rattle.report.specs.Encoding.{unmapped_width, unmapped_row, rows_of}
use Rattle.report.proofs.Widths.{unmapped-width}
use Rattle.report.proofs.RowsOf.{rows_length, rows_append}
use Rattle.settlement.proofs.Results.{tidy_shows}
use Rattle.unmapped.specs.Row.{or_zero, number, row_key, element_key}

-- number j of row k
rows_at : (us : List (Unmapped Place)) (k j : ℕ) (d : Unmapped Place) → k < length us → j < unmapped_width → get_or (rows_of unmapped_row us) (k * unmapped_width + j) (pos 0) ≡ get_or (unmapped_row (get_or us k d)) j (pos 0)
unfolding rows_of
rows_at [] k j d h h' = absurd (omega arith)
rows_at (u ∷ us) zero j d h h' =
    let e : zero * unmapped_width + j ≡ j = omega arith in
    ap (λ (i : ℕ). get_or (unmapped_row u ++ rows_of unmapped_row us) i (pos 0)) e ∙ get_or-append (unmapped_row u) (rows_of unmapped_row us) (pos 0) j (omega (arith, unmapped-width u))
rows_at (u ∷ us) (suc k) j d h h' =
    let e : suc k * unmapped_width + j ≡ length (unmapped_row u) + (k * unmapped_width + j) = omega (arith, unmapped-width u) in
    ap (λ (i : ℕ). get_or (unmapped_row u ++ rows_of unmapped_row us) i (pos 0)) e ∙ get_or-append-add (unmapped_row u) (rows_of unmapped_row us) (k * unmapped_width + j) (pos 0) ∙ rows_at us k j d (omega arith) h'

module _ (lent : List ℤ) (us : List (Unmapped Place)) (room : length us * unmapped_width ≤ length lent) where
  back_number : (k j : ℕ) (d : Unmapped Place) → k < length us → j < unmapped_width → number (put lent 0 (rows_of unmapped_row us)) k j ≡ or_zero (get_or (unmapped_row (get_or us k d)) j (pos 0))
  unfolding number
  back_number k j d h h' =
      let e : 0 + (k * unmapped_width + j) ≡ k * unmapped_width + j = omega arith in
      let p = put_at (rows_of unmapped_row us) lent 0 (k * unmapped_width + j) (pos 0) (omega (arith, rows_length unmapped_row unmapped_width unmapped-width us)) (omega arith) in
      ap or_zero (sym (ap (λ (i : ℕ). get_or (put lent 0 (rows_of unmapped_row us)) i (pos 0)) e) ∙ p ∙ rows_at us k j d h h')

  -- a row's key is its element's
  pub back_key : (x : List ℕ) (k : ℕ) (d : Unmapped Place) → k < length us → row_key x (put lent 0 (rows_of unmapped_row us)) k ≡ element_key x (get_or us k d)
  unfolding row_key element_key unmapped_row
  back_key x k d h =
      rw (back_number k 0 d h (omega arith), back_number k 1 d h (omega arith), back_number k 2 d h (omega arith), tidy_shows x (get_or us k d).name)

  -- the rows before row k and from it on
  module _ (k : ℕ) (h : k ≤ length us) where
    rows_split : rows_of unmapped_row us ≡ rows_of unmapped_row (take k us) ++ rows_of unmapped_row (drop k us)
    rows_split = ap (rows_of unmapped_row) (sym (take-append-drop k us)) ∙ rows_append unmapped_row (take k us) (drop k us)

    rows_before : length (rows_of unmapped_row (take k us)) ≡ k * unmapped_width
    rows_before = rows_length unmapped_row unmapped_width unmapped-width (take k us) ∙ ap (λ (n : ℕ). n * unmapped_width) (length-take-le k us h)

    back_slice : slice (k * unmapped_width) (length us * unmapped_width) (put lent 0 (rows_of unmapped_row us)) ≡ rows_of unmapped_row (drop k us)
    back_slice =
        let e = rows_length unmapped_row unmapped_width unmapped-width us in
        let f = put_eq lent 0 (rows_of unmapped_row us) (omega arith) in
        let g : take (length us * unmapped_width) (put lent 0 (rows_of unmapped_row us)) ≡ rows_of unmapped_row us = ap (take (length us * unmapped_width)) f ∙ take_at (rows_of unmapped_row us) _ (length us * unmapped_width) e in
        ap (drop (k * unmapped_width)) (g ∙ rows_split) ∙ drop_at (rows_of unmapped_row (take k us)) (rows_of unmapped_row (drop k us)) (k * unmapped_width) rows_before

    -- a row before row k, the later ones behind it
    pub back_inserted : (u : Unmapped Place) → put (put lent 0 (rows_of unmapped_row us)) (k * unmapped_width) (unmapped_row u ++ slice (k * unmapped_width) (length us * unmapped_width) (put lent 0 (rows_of unmapped_row us))) ≡ put lent 0 (rows_of unmapped_row (take k us ++ u ∷ drop k us))
    unfolding rows_of
    back_inserted u =
        let a = rows_of unmapped_row (take k us) in
        let b = rows_of unmapped_row (drop k us) in
        let v = unmapped_row u ++ b in
        let n : 0 + length a ≡ k * unmapped_width = omega (arith, rows_before) in
        let old : put lent 0 (rows_of unmapped_row us) ≡ put (put lent 0 a) (k * unmapped_width) b = ap (put lent 0) rows_split ∙ sym (put_put a lent b 0) ∙ ap (λ (i : ℕ). put (put lent 0 a) i b) n in
        ap (λ (w : List ℤ). put (put lent 0 (rows_of unmapped_row us)) (k * unmapped_width) (unmapped_row u ++ w)) back_slice
        ∙ ap (λ (m : List ℤ). put m (k * unmapped_width) v) old
        ∙ put_again b v (put lent 0 a) (k * unmapped_width) (omega (arith, length-append (unmapped_row u) b))
        ∙ ap (λ (i : ℕ). put (put lent 0 a) i v) (sym n)
        ∙ put_put a lent v 0
        ∙ ap (put lent 0) (sym (rows_append unmapped_row (take k us) (u ∷ drop k us)))
