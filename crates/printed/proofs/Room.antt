-- Every line has room: of numbers of 64 bits and a text of n bytes, it has at most 3 n + 256 bytes.
use mathlib.Core.Path.{◌≡◌, refl, ap, ◌∙◌}
use mathlib.Core.Bool.{Bool, true, false, cond, ◌&&◌}
use mathlib.Core.List.{List, [], ◌∷◌, ◌++◌, map}
use mathlib.Core.Option.{Option, none, some}
use Prim.Native.Nat.{ℕ, zero, suc, ◌+◌, ◌*◌, ◌≤◌, ◌<◌, ◌^◌}
use Prim.Native.String.{String}
use native.Mathlib.Omega.{arith}
use borrow.Author.Tests.{ltb-true, ltb-false}
use lib.Dec.{ltb}
use lib.IntN.{ℤ, pos}
use lib.Signed.{mag}
use lib.ListN.{length, get_or, take, drop, length-append, length-take, get_or-eq_default}
use lib.Seq.{get_or-take, get_or-drop, take_at}
use Rattle.text.specs.Utf8.{bytes, encode}
use Rattle.text.proofs.Bools.{both}
use Rattle.names.proofs.Puts.{put_eq}
use Rattle.report.specs.Columns.{Column, text, plain, amount, percent, date, held_columns}
use Rattle.report.specs.Encoding.{held_width, entry_width, unmapped_width, cut_rows}
use Rattle.report.specs.Placed.{Placed}
use Rattle.report.proofs.Placing.{placed_room}
use Rattle.decimals.specs.Decimal.{natural}
use Rattle.decimals.proofs.Room.{decimal_length, signed_length}
use Rattle.fields.specs.Line.{field, tabbed, line}
use Rattle.fields.specs.Columns.{cell, shown, fields}
use Rattle.fields.proofs.Room.{column_room, columns_room, field_length, fields_length}
use Rattle.lines.proofs.Room.{path_length, term_length, unmapped_length}
use Rattle.printed.specs.Printed.{group_line}
use Rattle.printed.specs.Numbers.{there, GroupAt, TermAt, groups, terms, has_scheme, group_numbers, term_with, scheme_shown, term_numbers, held_numbers, entry_numbers, unmapped_numbers, row_count, rows_in, accepted_line, refused_line, later_lines, row_lines, accepted_lines, lines_of, Wide, line_room}

-- lists of lines that have at most n bytes each
abbrev Short : ℕ → List (List ℕ) → Type 0
Short n [] = Unit {0}
Short n (s ∷ l) = (length s ≤ n) × Short n l

short_at : (n : ℕ) (l : List (List ℕ)) (k : ℕ) → Short n l → length (get_or l k []) ≤ n
short_at n [] k h = omega arith
short_at n (s ∷ l) zero h = h.0
short_at n (s ∷ l) (suc k) h = short_at n l k h.1

short_append : (n : ℕ) (l m : List (List ℕ)) → Short n l → Short n m → Short n (l ++ m)
short_append n [] m p q = q
short_append n (s ∷ l) m p q = (p.0, short_append n l m p.1 q)

-- lines made of things that pass a test
all_of : {A : Type 0} → (A → Bool) → List A → Bool
all_of ok [] = true
all_of ok (a ∷ l) = ok a && all_of ok l

short_map : {A : Type 0} (n : ℕ) (f : A → List ℕ) (ok : A → Bool) → ((a : A) → ok a ≡ true → length (f a) ≤ n) → (l : List A) → all_of ok l ≡ true → Short n (map f l)
unfolding all_of
short_map n f ok h [] e = tt
short_map n f ok h (a ∷ l) e = (h a (both (ok a) (all_of ok l) e).0, short_map n f ok h l (both (ok a) (all_of ok l) e).1)

-- rows of numbers of 64 bits
take_wide : (w : ℕ) (l : List ℤ) → Wide l → Wide (take w l)
take_wide w l q i = go (ltb i w) refl
  where
    go : (b : Bool) → ltb i w ≡ b → mag (get_or (take w l) i (pos 0)) < 2 ^ 63
    go true e = rw (get_or-take w l i (pos 0) (ltb-true i w e)) (q i)
    go false e =
        let h : length (take w l) ≤ i = omega (arith, length-take w l, ltb-false i w e) in
        rw (get_or-eq_default (take w l) (pos 0) h) (omega arith)

drop_wide : (w : ℕ) (l : List ℤ) → Wide l → Wide (drop w l)
drop_wide w l q i = rw (get_or-drop w l i (pos 0)) (q (w + i))

short_rows : (n : ℕ) (f : List ℤ → List ℕ) → ((row : List ℤ) → Wide row → length (f row) ≤ n) → (w c : ℕ) (l : List ℤ) → Wide l → Short n (map f (cut_rows w c l))
unfolding cut_rows
short_rows n f h w zero l q = tt
short_rows n f h w (suc c) l q = (h (take w l) (take_wide w l q), short_rows n f h w c (drop w l) (drop_wide w l q))

-- a line
line_length : (w : String) (fs : List (List ℕ)) → length (line w fs) ≡ length (bytes w) + length (tabbed fs) + 1
unfolding line
line_length w fs = length-append (bytes w ++ tabbed fs) (0xA ∷ []) ∙ ap (λ (n : ℕ). n + 1) (length-append (bytes w) (tabbed fs))

module _ (x : List ℕ) where
  accepted_short : (a : List ℤ) → Wide a → length (accepted_line x a) ≤ line_room (length x)
  unfolding accepted_line bytes encode
  accepted_short a q = rw (line_length "accepted" (fields x (plain ∷ plain ∷ plain ∷ []) (drop 2 a))) (omega (arith, fields_length x (plain ∷ plain ∷ plain ∷ []) (drop 2 a) (drop_wide 2 a q)))

  refused_short : (a : List ℤ) → Wide a → length (refused_line x a) ≤ line_room (length x)
  unfolding refused_line bytes encode
  refused_short a q = rw (line_length "refused" (fields x (plain ∷ plain ∷ []) a)) (omega (arith, fields_length x (plain ∷ plain ∷ []) a q))

  -- what is held
  columns-room : (n k : ℕ) → columns_room n (held_columns k) ≤ 3 * n + 153
  unfolding held_columns
  columns-room n zero = omega arith
  columns-room n (suc zero) = omega arith
  columns-room n (suc (suc zero)) = omega arith
  columns-room n (suc (suc (suc zero))) = omega arith
  columns-room n (suc (suc (suc (suc zero)))) = omega arith
  columns-room n (suc (suc (suc (suc (suc zero))))) = omega arith
  columns-room n (suc (suc (suc (suc (suc (suc k)))))) = omega arith

  held_short : (row : List ℤ) → Wide row → length (held_numbers x row) ≤ line_room (length x)
  unfolding held_numbers bytes encode
  held_short row q =
      let cs = held_columns (natural (cell row 0)) in
      rw (line_length "held" (fields x cs row)) (omega (arith, fields_length x cs row q, columns-room (length x) (natural (cell row 0))))

  -- entries and unmapped elements
  entry_short : (row : List ℤ) → Wide row → length (entry_numbers x row) ≤ line_room (length x)
  unfolding entry_numbers line tabbed bytes encode
  entry_short row q =
      simp length-append
      (omega (arith, signed_length (cell row 0) (q 0), path_length (natural (cell row 1)), term_length (natural (cell row 2)) (cell row 3) (q 3), field_length x text (drop 4 row) (drop_wide 4 row q)))

  unmapped_short : (row : List ℤ) → Wide row → length (unmapped_numbers x row) ≤ line_room (length x)
  unfolding unmapped_numbers line tabbed bytes encode
  unmapped_short row q = simp length-append (omega (arith, unmapped_length x (natural (cell row 0)) (cell row 1) (cell row 2)))

  -- groups and terms, whose numbers have at most three digits
  group_short : (a : List ℤ) (g : GroupAt) → ltb g.number 1000 ≡ true → length (group_numbers a g) ≤ line_room (length x)
  unfolding group_numbers line tabbed bytes encode
  group_short a g e = go (there (cell a g.place))
    where
      go : (b : Bool) → length (group_line g.number b) ≤ line_room (length x)
      go true = simp length-append (omega (arith, decimal_length g.number 2 (ltb-true g.number 1000 e)))
      go false = omega arith

  scheme_short : (a : List ℤ) → Wide a → (n p : ℕ) → length (field (scheme_shown x a n p)) ≤ length x + 1
  unfolding scheme_shown field bytes encode
  scheme_short a q n p = go (has_scheme n)
    where
      go : (b : Bool) → length (field (cond b (shown x text (drop (p + 2) a)) none)) ≤ length x + 1
      go true = omega (arith, field_length x text (drop (p + 2) a) (drop_wide (p + 2) a q))
      go false = omega arith

  column-room : (n : ℕ) (c : Column) → column_room n c ≤ n + 41
  column-room n text = omega arith
  column-room n plain = omega arith
  column-room n amount = omega arith
  column-room n percent = omega arith
  column-room n date = omega arith

  with_short : (n : ℕ) (o s : Option (List ℕ)) → n < 1000 → length (term_with n o s) ≤ 14 + length (field o) + length (field s)
  unfolding term_with line tabbed field bytes encode
  with_short n none s h = omega arith
  with_short n (some c) none h = simp length-append (omega (arith, decimal_length n 2 h))
  with_short n (some c) (some t) h = simp length-append (omega (arith, decimal_length n 2 h))

  term_short : (a : List ℤ) → Wide a → (t : TermAt) → ltb t.number 1000 ≡ true → length (term_numbers x a t) ≤ line_room (length x)
  unfolding term_numbers
  term_short a q t e =
      let p = t.place in
      let o = shown x t.column (drop p a) in
      omega (arith, with_short t.number o (scheme_shown x a t.number p) (ltb-true t.number 1000 e), scheme_short a q t.number p, field_length x t.column (drop p a) (drop_wide p a q), column-room (length x) t.column)

-- where there is room, what was put at the front is there whole
whole : {l v m : List ℕ} {r : ℕ} → Placed l 0 v m r → length v ≤ length l → take r m ≡ v
whole {l} {v} {m} {r} p h =
    let z : 0 + length v ≤ length l = omega arith in
    let q : length v ≡ 0 + length v = omega arith in
    rw (placed_room p z, p.now, put_eq l 0 v z) (take_at v (drop (0 + length v) l) (0 + length v) q)

module _ (x : List ℕ) where
  -- all lines of a call
  module _ (a h e u : List ℤ) (qa : Wide a) (qh : Wide h) (qe : Wide e) (qu : Wide u) where
    accepted_lines_short : Short (line_room (length x)) (accepted_lines x a h e u)
    unfolding accepted_lines row_lines later_lines all_of
    accepted_lines_short =
        let n = line_room (length x) in
        let g = accepted_line x a ∷ map (group_numbers a) groups in
        let t = map (term_numbers x a) terms in
        let r = map (held_numbers x) (rows_in held_width (cell a 2) h) in
        let s = map (entry_numbers x) (rows_in entry_width (cell a 3) e) in
        let v = map (unmapped_numbers x) (rows_in unmapped_width (cell a 4) u) in
        let first : Short n g = (accepted_short x a qa, short_map n (group_numbers a) (λ g. ltb g.number 1000) (group_short x a) groups refl) in
        short_append n (g ++ t) (r ++ (s ++ v))
        (short_append n g t first (short_map n (term_numbers x a) (λ t. ltb t.number 1000) (term_short x a qa) terms refl))
        (short_append n r (s ++ v) (short_rows n (held_numbers x) (held_short x) held_width (row_count held_width (cell a 2) h) h qh)
        (short_append n s v (short_rows n (entry_numbers x) (entry_short x) entry_width (row_count entry_width (cell a 3) e) e qe) (short_rows n (unmapped_numbers x) (unmapped_short x) unmapped_width (row_count unmapped_width (cell a 4) u) u qu)))

    pub line_short : (k : ℕ) → length (get_or (lines_of x a h e u) k []) ≤ line_room (length x)
    unfolding lines_of
    line_short k = short_at (line_room (length x)) (lines_of x a h e u) k (go (there (cell a 0)))
      where
        go : (b : Bool) → Short (line_room (length x)) (cond b (refused_line x a ∷ []) (accepted_lines x a h e u))
        go true = (refused_short x a qa, tt)
        go false = accepted_lines_short

    -- in a list with that room each line is put whole
    pub line_whole : (k : ℕ) {l m : List ℕ} {r : ℕ} → line_room (length x) ≤ length l → Placed l 0 (get_or (lines_of x a h e u) k []) m r → take r m ≡ get_or (lines_of x a h e u) k []
    line_whole k i p = whole p (omega (arith, line_short k))
