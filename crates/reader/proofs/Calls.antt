-- Demand 3 at the calls: two calls that read, lent any lists, whose tables describe the same settlement except for an exchange, leave numbers that show the same but for the order of rows.
use mathlib.Core.Path.{◌≡◌, refl, sym, ap, ◌∙◌}
use mathlib.Core.Bool.{Bool, true, false, cond}
use mathlib.Core.List.Perm
use mathlib.Core.List.{List, [], ◌∷◌, ◌++◌, map}
use mathlib.Core.Option
use mathlib.Core.Option.{Option, none, some}
use Prim.Native.Nat.{ℕ, ◌+◌, ◌-◌}
use lib.Dec.{eqb}
use lib.IntN.{ℤ, pos}
use lib.ListN.{length, replicate}
use Rattle.names.specs.Message.{message_number}
use Rattle.names.specs.Path.{path_number}
use Rattle.names.specs.Term.{maybe_term_number}
use Rattle.names.specs.Parent.{parent_number}
use Rattle.report.specs.Rows.{Place, Entry, AllowanceCharge, Held, transfer, vat, allowance, charge, preceding, Unmapped, map_entry, map_transfer, map_vat, map_allowance_charge, map_preceding, map_held, map_unmapped}
use Rattle.report.specs.Columns.{Column, width, entry_columns, unmapped_columns, transfer_columns, vat_columns, allowance_charge_columns, preceding_columns, held_columns}
use Rattle.report.specs.Encoding.{held_width, entry_width, unmapped_width, place_start, place_length, text_start, text_length, percent_cells, amount_cells, or_absent, held_row, entry_row, unmapped_row, rows_of, rows_then}
use Rattle.report.proofs.RowsOf.{cut_exit}
use Rattle.report.proofs.Widths.{held-width, entry-width, unmapped-width}
use Rattle.settlement.specs.Shapes.{Reading}
use Rattle.settlement.specs.Values.{Lent}
use Rattle.settlement.specs.Settlement.{reading}
use Rattle.settlement.specs.TableDoc.{shows, table_doc}
use Rattle.settlement.specs.Tree.{tree_doc, tree_of}
use Rattle.settlement.specs.Shown.{map_reading}
use Rattle.settlement.specs.Outcome.{read, outcome, shown}
use Rattle.settlement.specs.Result.{Result, result_of}
use Rattle.settlement.specs.Alike.{row_kind, keep, of_kind, Alike}
use Rattle.settlement.specs.Exchange.{Exchanged}
use Rattle.settlement.proofs.AnyOrder.{same_settlement, order_free}
use Rattle.settlement.proofs.Results.{outcome_zero, tidy_shows}
use Rattle.reader.specs.Answered.{room_of}
use Rattle.reader.specs.Calls.{Cell, number, absent, bytes, text_cell, column_cells, shown_row, kind_of, shown_held_row, Exit, held_in, shown_held, shown_of_kind, shown_entries, shown_unmapped, AlikeRows, SameRows, Call, Promised, exit_of, shown_terms, AlikeCalls, SameCalls}

-- rows that pass a test, and what passes it
keep_map : {A B : Type 0} (f : A → B) (s : A → Bool) (t : B → Bool) → ((a : A) → t (f a) ≡ s a) → (l : List A) → keep t (map f l) ≡ map f (keep s l)
unfolding keep
keep_map f s t h [] = refl
keep_map f s t h (a ∷ l) = rw (h a, keep_map f s t h l) (go (s a))
  where
    go : (b : Bool) → cond b (f a ∷ map f (keep s l)) (map f (keep s l)) ≡ map f (cond b (a ∷ keep s l) (keep s l))
    go true = refl
    go false = refl

-- what a text shows that may be absent
abbrev pub cell_of : Option (List ℕ) → Cell
cell_of none = absent
cell_of (some b) = bytes b

module _ (x : List ℕ) where
  -- the two numbers of a text show what its place does
  pub place_shown : (p : Place) → text_cell x (place_start p) (place_length p) ≡ bytes (shows x p)
  unfolding text_cell
  place_shown p = ap bytes (tidy_shows x p)

  pub text-shown : (t : Option Place) → text_cell x (text_start t) (text_length t) ≡ cell_of (Option.map (shows x) t)
  unfolding text_cell
  text-shown none = refl
  text-shown (some p) = place_shown p

-- the cells of a row whose texts are bytes
abbrev entry_cells : Entry (List ℕ) → List Cell
entry_cells e = number (pos (message_number e.message)) ∷ number (pos (path_number e.path)) ∷ number (pos (maybe_term_number e.term)) ∷ number (or_absent e.index) ∷ cell_of e.value ∷ []

abbrev unmapped_cells : Unmapped (List ℕ) → List Cell
unmapped_cells u = number (pos (parent_number u.parent)) ∷ bytes u.name ∷ []

-- the unused numbers of a held row
abbrev widths : List Column → ℕ
widths [] = 0
widths (c ∷ cs) = width c + widths cs

abbrev unused : List Column → List Cell
unused cs = replicate (held_width - widths cs) (number (pos 0))

abbrev allowance_charge_cells : ℕ → AllowanceCharge (List ℕ) → List Cell
allowance_charge_cells k a =
    number (pos k) ∷
    number a.amount ∷
    map number (amount_cells a.base) ++
    map number (percent_cells a.percentage) ++
    bytes a.category ∷
    map number (percent_cells a.rate) ++
    cell_of a.reason ∷
    cell_of a.code ∷ unused allowance_charge_columns

abbrev held_cells : Held (List ℕ) → List Cell
held_cells (transfer t) = number (pos 1) ∷ cell_of t.account ∷ cell_of t.name ∷ cell_of t.provider ∷ unused transfer_columns
held_cells (vat v) =
    number (pos 2) ∷ number v.taxable ∷ number v.tax ∷ bytes v.category ∷ map number (percent_cells v.rate) ++ cell_of v.reason ∷ cell_of v.code ∷ unused vat_columns
held_cells (allowance a) = allowance_charge_cells 3 a
held_cells (charge a) = allowance_charge_cells 4 a
held_cells (preceding p) = number (pos 5) ∷ bytes p.reference ∷ number (or_absent p.date) ∷ unused preceding_columns

-- showing a row is showing its places
module _ (x : List ℕ) where
  entry_shown : (e : Entry Place) → shown_row entry_columns x (entry_row e) ≡ entry_cells (map_entry (shows x) e)
  unfolding shown_row column_cells entry_row map_entry
  entry_shown e = rw (text-shown x e.value)

  unmapped_shown : (u : Unmapped Place) → shown_row unmapped_columns x (unmapped_row u) ≡ unmapped_cells (map_unmapped (shows x) u)
  unfolding shown_row column_cells unmapped_row map_unmapped
  unmapped_shown u = rw (place_shown x u.name)

  held_shown : (h : Held Place) → shown_held_row x (held_row h) ≡ held_cells (map_held (shows x) h)
  unfolding held_columns shown_row column_cells held_row map_held map_transfer map_vat map_allowance_charge map_preceding
  held_shown (transfer t) = rw (text-shown x t.account, text-shown x t.name, text-shown x t.provider)
  held_shown (vat v) = rw (place_shown x v.category, text-shown x v.reason, text-shown x v.code)
  held_shown (allowance a) = rw (place_shown x a.category, text-shown x a.reason, text-shown x a.code)
  held_shown (charge a) = rw (place_shown x a.category, text-shown x a.reason, text-shown x a.code)
  held_shown (preceding p) = rw (place_shown x p.reference)

-- showing rows is showing the places of each
rows_shown : {A B : Type 0} (row : A → List ℤ) (show : List ℤ → List Cell) (m : A → B) (cells : B → List Cell) → ((a : A) → show (row a) ≡ cells (m a)) → (l : List A) → map show (map row l) ≡ map cells (map m l)
rows_shown row show m cells h [] = refl
rows_shown row show m cells h (a ∷ l) = rw (h a, rows_shown row show m cells h l)

-- the kind of a row is its first number, whatever its texts are
row-kind : (h : Held Place) → kind_of (held_row h) ≡ row_kind h
unfolding held_row
row-kind (transfer t) = refl
row-kind (vat v) = refl
row-kind (allowance a) = refl
row-kind (charge a) = refl
row-kind (preceding p) = refl

map_kind : {X Y : Type 0} (f : X → Y) (h : Held X) → row_kind (map_held f h) ≡ row_kind h
unfolding map_held
map_kind f (transfer t) = refl
map_kind f (vat v) = refl
map_kind f (allowance a) = refl
map_kind f (charge a) = refl
map_kind f (preceding p) = refl

-- lists that were lent as h, e and u and left with the rows of a reading
pub record Left (r : Reading Place) (h e u : List ℤ) (c : Exit) : Type 0 where
  pub held_count : c.held_count ≡ length r.held
  pub entry_count : c.entry_count ≡ length r.entries
  pub unmapped_count : c.unmapped_count ≡ length r.unmapped
  pub held_rows : c.held ≡ rows_then (rows_of held_row r.held) h
  pub entry_rows : c.entries ≡ rows_then (rows_of entry_row r.entries) e
  pub unmapped_rows : c.unmapped ≡ rows_then (rows_of unmapped_row r.unmapped) u

-- their numbers show what the reading does
module _ {r : Reading Place} {h e u : List ℤ} {c : Exit} (p : Left r h e u c) where
  held-in : held_in c ≡ map held_row r.held
  unfolding held_in
  held-in = cut_exit held_row held_width held-width r.held h p.held_count p.held_rows

  held_are : shown_held c ≡ map held_cells (shown c.text r).held
  unfolding shown_held shown map_reading
  held_are = ap (map (shown_held_row c.text)) held-in ∙ rows_shown held_row (shown_held_row c.text) (map_held (shows c.text)) held_cells (held_shown c.text) r.held

  kind_are : (j : ℕ) → shown_of_kind j c ≡ map held_cells (of_kind j (shown c.text r).held)
  unfolding shown_of_kind shown map_reading of_kind
  kind_are j =
      ap (λ (l : List (List ℤ)). map (shown_held_row c.text) (keep (λ v. eqb (kind_of v) j) l)) held-in ∙
      ap (map (shown_held_row c.text)) (keep_map held_row (λ h. eqb (row_kind h) j) (λ v. eqb (kind_of v) j) (λ h. ap (λ (k : ℕ). eqb k j) (row-kind h)) r.held) ∙
      rows_shown held_row (shown_held_row c.text) (map_held (shows c.text)) held_cells (held_shown c.text) (keep (λ h. eqb (row_kind h) j) r.held) ∙
      ap (map held_cells) (sym (keep_map (map_held (shows c.text)) (λ h. eqb (row_kind h) j) (λ h. eqb (row_kind h) j) (λ h. ap (λ (k : ℕ). eqb k j) (map_kind (shows c.text) h)) r.held))

  entries_are : shown_entries c ≡ map entry_cells (shown c.text r).entries
  unfolding shown_entries shown map_reading
  entries_are =
      ap (map (shown_row entry_columns c.text)) (cut_exit entry_row entry_width entry-width r.entries e p.entry_count p.entry_rows) ∙
      rows_shown entry_row (shown_row entry_columns c.text) (map_entry (shows c.text)) entry_cells (entry_shown c.text) r.entries

  unmapped_are : shown_unmapped c ≡ map unmapped_cells (shown c.text r).unmapped
  unfolding shown_unmapped shown map_reading
  unmapped_are =
      ap (map (shown_row unmapped_columns c.text)) (cut_exit unmapped_row unmapped_width unmapped-width r.unmapped u p.unmapped_count p.unmapped_rows) ∙
      rows_shown unmapped_row (shown_row unmapped_columns c.text) (map_unmapped (shows c.text)) unmapped_cells (unmapped_shown c.text) r.unmapped

-- so readings that show the same leave rows that do
module _ {r q : Reading Place} {h e u h' e' u' : List ℤ} {c d : Exit} (p : Left r h e u c) (k : Left q h' e' u' d) where
  pub same_rows : shown c.text r ≡ shown d.text q → SameRows c d
  same_rows a =
      record {
        held = held_are p ∙ ap (λ (r : Reading (List ℕ)). map held_cells r.held) a ∙ sym (held_are k);
        unmapped = unmapped_are p ∙ ap (λ (r : Reading (List ℕ)). map unmapped_cells r.unmapped) a ∙ sym (unmapped_are k);
        entries = entries_are p ∙ ap (λ (r : Reading (List ℕ)). map entry_cells r.entries) a ∙ sym (entries_are k);
      }

  pub alike_rows : Alike (shown c.text r) (shown d.text q) → AlikeRows c d
  alike_rows a =
      record {
        held = λ j. kind_are p j ∙ ap (map held_cells) (a.held j) ∙ sym (kind_are k j);
        unmapped = unmapped_are p ∙ ap (map unmapped_cells) a.unmapped ∙ sym (unmapped_are k);
        entries = rw (entries_are p, entries_are k) (Perm.map entry_cells a.entries);
      }

-- a call that read: it leaves what its reading says
module _ (L : Lent) (c : Call) (p : Promised L c) (e : c.answer.refusal ≡ 0) where
  abbrev reading_of : Reading Place
  reading_of = reading L (table_doc c.table c.text) 0

  call_read : outcome L (room_of c.held c.entries c.unmapped) c.table c.text ≡ read reading_of
  call_read = outcome_zero L _ c.table c.text (sym p.refusal ∙ e)

  result : result_of (outcome L (room_of c.held c.entries c.unmapped) c.table c.text) ≡ result_of (read reading_of)
  result = ap result_of call_read

  terms_are : shown_terms c ≡ (shown c.text reading_of).terms
  unfolding shown_terms shown map_reading result_of
  terms_are = rw (p.terms ∙ ap (λ (r : Result). r.terms) result)

  left : Left reading_of c.held c.entries c.unmapped (exit_of c)
  unfolding result_of
  left =
      record {
        held_count = p.held_count ∙ ap (λ (r : Result). r.held_count) result;
        entry_count = p.entry_count ∙ ap (λ (r : Result). r.entry_count) result;
        unmapped_count = p.unmapped_count ∙ ap (λ (r : Result). r.unmapped_count) result;
        held_rows = p.held_rows ∙ ap (λ (r : Result). rows_then r.held c.held) result;
        entry_rows = p.entry_rows ∙ ap (λ (r : Result). rows_then r.entries c.entries) result;
        unmapped_rows = p.unmapped_rows ∙ ap (λ (r : Result). rows_then r.unmapped c.unmapped) result;
      }

-- two calls that read under the same mode, rules number and currency, and under identifiers that both are or both are not that of a conformant extension, the lists at entry being any
module _ (L : Lent) (c d : Call) (p : Promised L c) (q : Promised L d) (e : c.answer.refusal ≡ 0) (f : d.answer.refusal ≡ 0) where
  -- tables that describe the same settlement leave numbers that show the same
  pub calls_same : tree_of c.table c.text 0 ≡ tree_of d.table d.text 0 → SameCalls c d
  calls_same h =
      let a = same_settlement L _ _ c.table c.text d.table d.text _ _ (call_read L c p e) (call_read L d q f) h in
      record {
        left = e;
        right = f;
        terms = terms_are L c p e ∙ ap (λ (r : Reading (List ℕ)). r.terms) a ∙ sym (terms_are L d q f);
        rows = same_rows (left L c p e) (left L d q f) a;
      }

  -- and except for an exchange, numbers that show the same but for the order of rows
  pub calls_order_free : Exchanged tree_doc (tree_of c.table c.text 0) (tree_of d.table d.text 0) → AlikeCalls c d
  calls_order_free h =
      let a = order_free L _ _ c.table c.text d.table d.text _ _ (call_read L c p e) (call_read L d q f) h in
      record {
        left = e;
        right = f;
        terms = terms_are L c p e ∙ a.terms ∙ sym (terms_are L d q f);
        rows = alike_rows (left L c p e) (left L d q f) a;
      }
