-- Which line of a call is at a place.
use mathlib.Core.Path.{◌≡◌, refl, sym, ap, ◌∙◌}
use mathlib.Core.Bool.{Bool, true, false}
use mathlib.Core.List.{List, [], ◌∷◌, ◌++◌, map}
use Prim.Native.Nat.{ℕ, zero, suc, ◌+◌, ◌*◌, ◌-◌, ◌≤◌, ◌<◌}
use native.Mathlib.Omega.{arith}
use native.Mathlib.Nat.{suc-mul}
use lib.IntN.{ℤ}
use lib.ListN.{length, get_or, take, drop, get_or-append, get_or-eq_default}
use lib.Seq.{get_or-append-add, drop-drop}
use Rattle.report.specs.Columns.{plain}
use Rattle.report.specs.Encoding.{held_width, entry_width, unmapped_width, cut_rows}
use Rattle.decimals.specs.Puts.{Puts}
use Rattle.decimals.specs.declared.line.Line.{Line}
use Rattle.decimals.proofs.Putting.{puts_none, puts_as}
use Rattle.fields.specs.Columns.{cell}
use Rattle.printed.specs.Numbers.{there, group, groups, group_numbers, term, terms, term_numbers, held_numbers, entry_numbers, unmapped_numbers, row_count, rows_in, accepted_line, refused_line, later_lines, row_lines, accepted_lines, lines_of}
use Rattle.printed.proofs.Counting.{cut_length, row_lines_length}

-- an element behind the first list
past : {A : Type 0} (l m : List A) (d : A) (k : ℕ) → length l ≤ k → get_or (l ++ m) k d ≡ get_or m (k - length l) d
past l m d k h =
    let e : k ≡ length l + (k - length l) = omega arith in
    ap (λ (i : ℕ). get_or (l ++ m) i d) e ∙ get_or-append-add l m (k - length l) d

-- an element of a list that was mapped
mapped : {A B : Type 0} (f : A → B) (l : List A) (k : ℕ) (d : A) (e : B) → k < length l → get_or (map f l) k e ≡ f (get_or l k d)
mapped f [] k d e h = absurd (omega arith)
mapped f (a ∷ l) zero d e h = refl
mapped f (a ∷ l) (suc k) d e h = mapped f l k d e (omega arith)

-- a row that was cut
cut_at : (w n : ℕ) (l : List ℤ) (j : ℕ) → j < n → get_or (cut_rows w n l) j [] ≡ take w (drop (j * w) l)
unfolding cut_rows
cut_at w zero l j h = absurd (omega arith)
cut_at w (suc n) l zero h =
    let e : 0 * w ≡ 0 = omega arith in
    rw e
cut_at w (suc n) l (suc j) h =
    let e : w + j * w ≡ suc j * w = omega (arith, suc-mul j w) in
    cut_at w n (drop w l) j (omega arith) ∙ ap (take w) (drop-drop (j * w) w l ∙ ap (λ (i : ℕ). drop i l) e)

-- the rows of one list, before others
module _ (f : List ℤ → List ℕ) (w : ℕ) (answered : ℤ) (l : List ℤ) (rest : List (List ℕ)) {n : ℕ} (e : n ≡ row_count w answered l) where
  rows_there : length (map f (rows_in w answered l)) ≡ n
  rows_there = row_lines_length f w (row_count w answered l) l ∙ sym e

  row_first : (j : ℕ) → j < n → get_or (map f (rows_in w answered l) ++ rest) j [] ≡ f (take w (drop (j * w) l))
  row_first j h =
      let c = cut_length w (row_count w answered l) l in
      get_or-append (map f (rows_in w answered l)) rest [] j (omega (arith, rows_there)) ∙ mapped f (rows_in w answered l) j [] [] (omega arith) ∙
      ap f (cut_at w (row_count w answered l) l j (omega arith))

  row_later : (j : ℕ) → n ≤ j → get_or (map f (rows_in w answered l) ++ rest) j [] ≡ get_or rest (j - n) []
  row_later j h = past (map f (rows_in w answered l)) rest [] j (omega (arith, rows_there)) ∙ ap (λ (i : ℕ). get_or rest (j - i) []) rows_there

-- entries, then unmapped elements
module _ (x : List ℕ) (a e u : List ℤ) {n : ℕ} (h : n ≡ row_count entry_width (cell a 3) e) (j : ℕ) where
  pub later_entry : {m o : Line} → j < n → Puts (entry_numbers x (take entry_width (drop (j * entry_width) e))) m o → Puts (get_or (later_lines x a e u) j []) m o
  unfolding later_lines
  later_entry i p = puts_as (sym (row_first (entry_numbers x) entry_width (cell a 3) e _ h j i)) p

  unmapped_lines : n ≤ j → get_or (later_lines x a e u) j [] ≡ get_or (map (unmapped_numbers x) (rows_in unmapped_width (cell a 4) u)) (j - n) []
  unfolding later_lines
  unmapped_lines i = row_later (entry_numbers x) entry_width (cell a 3) e _ h j i

  module _ (i : n ≤ j) {k : ℕ} (g : k ≡ row_count unmapped_width (cell a 4) u) where
    pub later_unmapped : {m o : Line} → j - n < k → Puts (unmapped_numbers x (take unmapped_width (drop ((j - n) * unmapped_width) u))) m o → Puts (get_or (later_lines x a e u) j []) m o
    later_unmapped q p =
        let c = cut_length unmapped_width (row_count unmapped_width (cell a 4) u) u in
        puts_as
        (sym (unmapped_lines i ∙ mapped (unmapped_numbers x) (rows_in unmapped_width (cell a 4) u) (j - n) [] [] (omega arith) ∙ ap (unmapped_numbers x) (cut_at unmapped_width (row_count unmapped_width (cell a 4) u) u (j - n) (omega arith))))
        p

    pub later_none : (m : Line) → k ≤ j - n → Puts (get_or (later_lines x a e u) j []) m m
    later_none m q =
        let c = row_lines_length (unmapped_numbers x) unmapped_width (row_count unmapped_width (cell a 4) u) u in
        puts_as (sym (unmapped_lines i ∙ get_or-eq_default (map (unmapped_numbers x) (rows_in unmapped_width (cell a 4) u)) [] (omega arith))) (puts_none m)

-- what is held, then those
module _ (x : List ℕ) (a h e u : List ℤ) {n : ℕ} (c : n ≡ row_count held_width (cell a 2) h) (j : ℕ) where
  pub any_held : {m o : Line} → j < n → Puts (held_numbers x (take held_width (drop (j * held_width) h))) m o → Puts (get_or (row_lines x a h e u) j []) m o
  unfolding row_lines
  any_held i p = puts_as (sym (row_first (held_numbers x) held_width (cell a 2) h _ c j i)) p

  pub any_later : {m o : Line} → n ≤ j → Puts (get_or (later_lines x a e u) (j - n) []) m o → Puts (get_or (row_lines x a h e u) j []) m o
  unfolding row_lines
  any_later i p = puts_as (sym (row_later (held_numbers x) held_width (cell a 2) h _ c j i)) p

-- the counts, the groups, the terms, the rows
module _ (x : List ℕ) (a : List ℤ) where
  abbrev G : List (List ℕ)
  G = accepted_line x a ∷ map (group_numbers a) groups

  abbrev T : List (List ℕ)
  T = map (term_numbers x a) terms

module _ (x : List ℕ) (a h e u : List ℤ) (k : ℕ) where
  front : k < 36 → get_or (accepted_lines x a h e u) k [] ≡ get_or (G x a ++ T x a) k []
  unfolding accepted_lines
  front i = get_or-append (G x a ++ T x a) (row_lines x a h e u) [] k i

  pub accepted_first : {m o : Line} → k < 1 → Puts (accepted_line x a) m o → Puts (get_or (accepted_lines x a h e u) k []) m o
  accepted_first i p =
      let z : k ≡ 0 = omega arith in
      puts_as (sym (front (omega arith) ∙ rw z)) p

  pub accepted_group : {m o : Line} → 1 ≤ k → k < 6 → Puts (group_numbers a (get_or groups (k - 1) (group 0 0))) m o → Puts (get_or (accepted_lines x a h e u) k []) m o
  accepted_group i j p =
      puts_as
      (sym
      (front (omega arith) ∙ get_or-append (G x a) (T x a) [] k j ∙ past (accepted_line x a ∷ []) (map (group_numbers a) groups) [] k i ∙
      mapped (group_numbers a) groups (k - 1) (group 0 0) [] (omega arith)))
      p

  pub accepted_term : {m o : Line} → 6 ≤ k → k < 36 → Puts (term_numbers x a (get_or terms (k - 6) (term 0 plain 0))) m o → Puts (get_or (accepted_lines x a h e u) k []) m o
  accepted_term i j p = puts_as (sym (front j ∙ past (G x a) (T x a) [] k i ∙ mapped (term_numbers x a) terms (k - 6) (term 0 plain 0) [] (omega arith))) p

  pub accepted_row : {m o : Line} → 36 ≤ k → Puts (get_or (row_lines x a h e u) (k - 36) []) m o → Puts (get_or (accepted_lines x a h e u) k []) m o
  unfolding accepted_lines
  accepted_row i p = puts_as (sym (past (G x a ++ T x a) (row_lines x a h e u) [] k i)) p

-- refused, or read
module _ (x : List ℕ) (a h e u : List ℤ) (k : ℕ) {b : Bool} (c : b ≡ there (cell a 0)) where
  pub line_read : {m o : Line} → b ≡ false → Puts (get_or (accepted_lines x a h e u) k []) m o → Puts (get_or (lines_of x a h e u) k []) m o
  unfolding lines_of
  line_read i p = puts_as (rw (← c, i)) p

  pub line_refused : {m o : Line} → b ≡ true → k < 1 → Puts (refused_line x a) m o → Puts (get_or (lines_of x a h e u) k []) m o
  unfolding lines_of
  line_refused i j p =
      let z : k ≡ 0 = omega arith in
      puts_as (rw (← c, i, z)) p

  pub line_past : (m : Line) → b ≡ true → 1 ≤ k → Puts (get_or (lines_of x a h e u) k []) m m
  unfolding lines_of
  line_past m i j = puts_as (rw (← c, i) (sym (get_or-eq_default (refused_line x a ∷ []) [] j))) (puts_none m)
