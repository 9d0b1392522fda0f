-- What noting means: an element noted in a list of rows in order is inserted where the definition of the reading inserts it.
use mathlib.Core.Path.{◌≡◌, refl, sym, ap, ◌∙◌}
use mathlib.Core.List.{List, [], ◌∷◌, ◌++◌}
use Prim.Native.Nat.{ℕ, suc, ◌+◌, ◌*◌, ◌/◌, ◌≤◌, ◌<◌, Ordering}
use native.Mathlib.Omega.{arith}
use borrow.Author.Tests.{lt-leb}
use lib.IntN.{ℤ}
use lib.ListN.{length, get_or, take, drop, length-append, length-take, length-drop}
use Rattle.text.specs.Order.{order, opposite}
use Rattle.text.proofs.Orders.{order_is, order_turned, order_trans}
use Rattle.names.specs.Put.{put}
use Rattle.names.proofs.Puts.{put_none, length_put}
use Rattle.report.specs.Rows.{Place, Unmapped}
use Rattle.report.specs.Encoding.{unmapped_width, unmapped_row, rows_of}
use Rattle.settlement.specs.Document.{Doc}
use Rattle.settlement.specs.Settlement.{unmapped_key, unmapped_order}
use Rattle.settlement.specs.Sorted.{Ascending}
use Rattle.settlement.specs.TableDoc.{shows, table_doc}
use Rattle.settlement.specs.Walk.{placed, insert, insert_all}
use Rattle.settlement.proofs.UnmappedSet.{insert_ascending}
use Rattle.element.specs.LinkDoc.{link_doc}
use Rattle.unmapped.specs.Row.{element_key, element_order, standing}
use Rattle.unmapped.specs.Search.{sought}
use Rattle.unmapped.specs.Noting.{Rows, inserted, at_spot, noting, notings, Noted}
use Rattle.unmapped.specs.Listed.{Listed}
use Rattle.unmapped.proofs.Places.{Met, taken, free, halve_met, insert_taken, insert_free, ascending_before}
use Rattle.unmapped.proofs.RowsBack.{back_key, back_inserted}
use Rattle.std.specs.Prelude.{Option}

-- the order is that of the reading of a document whose places show the text
pub same_order : {N : Type 0} (D : Doc N Place) (x : List ℕ) → D.bytes ≡ shows x → unmapped_order D ≡ element_order x
unfolding unmapped_order unmapped_key element_order element_key
same_order D x e = rw e

-- so for a table, and for one whose records are linked
pub table_order : (t x : List ℕ) → unmapped_order (table_doc t x) ≡ element_order x
unfolding table_doc
table_order t x = same_order (table_doc t x) x refl

pub link_order : (t x l : List ℕ) → unmapped_order (link_doc t x l) ≡ element_order x
link_order t x l = same_order (link_doc t x l) x refl

module _ (x : List ℕ) where
  key_turned : (a b : Unmapped Place) → element_order x b a ≡ opposite (element_order x a b)
  unfolding element_order
  key_turned a b = order_turned (element_key x a) (element_key x b)

  key_joined : (a b d : Unmapped Place) → element_order x a b ≡ Ordering.eq → element_order x b d ≡ Ordering.eq → element_order x a d ≡ Ordering.eq
  unfolding element_order
  key_joined a b d e f = rw (order_is (element_key x a) (element_key x b) e) f

  key_trans : (a b d : Unmapped Place) → element_order x a b ≡ Ordering.lt → element_order x b d ≡ Ordering.lt → element_order x a d ≡ Ordering.lt
  unfolding element_order
  key_trans a b d e f = order_trans (element_key x a) (element_key x b) (element_key x d) e f

  key_same : (a b d : Unmapped Place) → element_order x d b ≡ Ordering.eq → element_order x a b ≡ Ordering.lt → element_order x a d ≡ Ordering.lt
  unfolding element_order
  key_same a b d e f = rw (order_is (element_key x d) (element_key x b) e) f

-- at most one more
insert_length : {A : Type 0} (c : A → A → Ordering) (u : A) (us : List A) → length (insert c u us) ≤ length us + 1
unfolding insert
insert_length c u [] = omega arith
insert_length {A} c u (b ∷ l) = go (c u b) (insert_length c u l)
  where
    go : (o : Ordering) → length (insert c u l) ≤ length l + 1 → length (placed c o u b l (insert c u l)) ≤ suc (length l) + 1
    go Ordering.lt h = omega arith
    go Ordering.eq h = omega arith
    go Ordering.gt h = omega arith

-- the rows of elements at the front of a list
abbrev front : List ℤ → List (Unmapped Place) → Rows
front lent us = record { list = put lent 0 (rows_of unmapped_row us); count = length us }

module _ (x : List ℕ) (lent : List ℤ) (us : List (Unmapped Place)) (u : Unmapped Place) (room : (length us + 1) * unmapped_width ≤ length lent) (sorted : Ascending (element_order x) us) where
  -- how the element stands to a row is how it stands to the row's element
  stands : (k : ℕ) → k < length us → standing x (put lent 0 (rows_of unmapped_row us)) u k ≡ element_order x u (get_or us k u)
  unfolding standing element_order
  stands k h = ap (order (element_key x u)) (back_key lent us (omega arith) x k u h)

  module _ (i j : ℕ) (p : i < j) (q : j < length us) where
    rising : element_order x (get_or us i u) (get_or us j u) ≡ Ordering.lt
    rising = ascending_before (element_order x) (key_trans x) us u i j sorted p q

    later : standing x (put lent 0 (rows_of unmapped_row us)) u i ≡ Ordering.lt → standing x (put lent 0 (rows_of unmapped_row us)) u j ≡ Ordering.lt
    later e = stands j q ∙ key_trans x u (get_or us i u) (get_or us j u) (sym (stands i (omega arith)) ∙ e) rising

    above : element_order x (get_or us i u) u ≡ Ordering.lt → standing x (put lent 0 (rows_of unmapped_row us)) u i ≡ Ordering.gt
    above e = stands i (omega arith) ∙ key_turned x (get_or us i u) u ∙ ap opposite e

    same : standing x (put lent 0 (rows_of unmapped_row us)) u j ≡ Ordering.eq → standing x (put lent 0 (rows_of unmapped_row us)) u i ≡ Ordering.gt
    same e = above (key_same x (get_or us i u) (get_or us j u) u (sym (stands j q) ∙ e) rising)

    earlier : standing x (put lent 0 (rows_of unmapped_row us)) u j ≡ Ordering.gt → standing x (put lent 0 (rows_of unmapped_row us)) u i ≡ Ordering.gt
    earlier e = above (key_trans x (get_or us i u) (get_or us j u) u rising (key_turned x u (get_or us j u) ∙ ap opposite (sym (stands j q) ∙ e)))

  met : Met (standing x (put lent 0 (rows_of unmapped_row us)) u) (length us) (sought x (put lent 0 (rows_of unmapped_row us)) (length us) u)
  unfolding sought
  met =
      halve_met (standing x (put lent 0 (rows_of unmapped_row us)) u) (length us) later same earlier (length us) 0 (length us) (omega arith) (omega arith) (omega arith)
      (λ i p. absurd (omega arith))
      (λ i p q. absurd (omega arith))

  -- at the spot that was found stands what insertion makes
  at-spot : {s : Option ℕ} → Met (standing x (put lent 0 (rows_of unmapped_row us)) u) (length us) s → at_spot s (put lent 0 (rows_of unmapped_row us)) (length us) u ≡ front lent (insert (element_order x) u us)
  unfolding inserted
  at-spot (taken k h e g) =
      rw (insert_taken (element_order x) u us k h (sym (stands k h) ∙ e) (λ i p. sym (stands i (omega arith)) ∙ g i p))
  at-spot (free {k} h g f) =
      let n = length-append (take k us) (u ∷ drop k us) in
      let m : length us + 1 ≡ length (take k us ++ u ∷ drop k us) = omega (arith, n, length-take k us, length-drop k us) in
      rw (insert_free (element_order x) u us k h (λ i p. sym (stands i (omega arith)) ∙ g i p) (λ i p q. sym (stands i q) ∙ f i p q), back_inserted lent us (omega arith) k h u, m)

  noting_inserts : noting x (put lent 0 (rows_of unmapped_row us)) (length us) u ≡ front lent (insert (element_order x) u us)
  unfolding noting
  noting_inserts =
      let e = length_put lent 0 (rows_of unmapped_row us) in
      rw (lt-leb (length (put lent 0 (rows_of unmapped_row us)) / unmapped_width) (length us) (omega arith)) (at-spot met)

-- no elements yet
pub listed_none : (x : List ℕ) (lent : List ℤ) → Listed x lent [] lent 0
unfolding rows_of
listed_none x lent = record { rows = sym (put_none lent 0); count = refl; sorted = tt; room = omega arith }

module _ {x : List ℕ} {lent now : List ℤ} {us : List (Unmapped Place)} {n : ℕ} (u : Unmapped Place) (l : Listed x lent us now n) (room : (length us + 1) * unmapped_width ≤ length lent) where
  noting_is : noting x now n u ≡ front lent (insert (element_order x) u us)
  noting_is = ap (λ (m : List ℤ). noting x m n u) l.rows ∙ ap (λ (k : ℕ). noting x (put lent 0 (rows_of unmapped_row us)) k u) l.count ∙ noting_inserts x lent us u room l.sorted

  -- where there is room for one row more, the list is then that of the elements with one inserted
  pub noted : Listed x lent (insert (element_order x) u us) (noting x now n u).list (noting x now n u).count
  noted =
      record {
        rows = ap (λ (r : Rows). r.list) noting_is;
        count = ap (λ (r : Rows). r.count) noting_is;
        sorted = insert_ascending (element_order x) (key_turned x) (key_joined x) u us l.sorted;
        room = omega (arith, insert_length (element_order x) u us);
      }

  -- the same of what `note_unmapped` ensures
  pub noted_by : {now' : List ℤ} {n' : ℕ} → Noted (noting x now n u) now' n' → Listed x lent (insert (element_order x) u us) now' n'
  noted_by w = record { rows = w.list ∙ noted.rows; count = w.count ∙ noted.count; sorted = noted.sorted; room = noted.room }

-- elements that are noted one after the other, with room for them all
pub noted_all :
    {x : List ℕ} {lent now now' : List ℤ} {us : List (Unmapped Place)} {n n' : ℕ} (vs : List (Unmapped Place)) → Listed x lent us now n → (length us + length vs) * unmapped_width ≤ length lent → Noted (notings x now n vs) now' n' →
    Listed x lent (insert_all (element_order x) us vs) now' n'
unfolding notings insert_all
noted_all [] l room w = record { rows = w.list ∙ l.rows; count = w.count ∙ l.count; sorted = l.sorted; room = l.room }
noted_all {x = x} {lent = lent} {now = now} {now' = now'} {us = us} {n = n} {n' = n'} (v ∷ vs) l room w = noted_all {now = (noting x now n v).list} vs (noted v l (omega arith)) (omega (arith, insert_length (element_order x) v us)) w
