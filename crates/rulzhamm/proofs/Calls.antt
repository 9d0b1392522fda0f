-- Demand 3 at a host's calls: two calls that read, lent any lists, whose tables describe the same settlement except for an exchange, leave answers that show the same, and rows that do but for their order.
use mathlib.Core.Path.{◌≡◌, refl, sym, ap, ◌∙◌}
use mathlib.Core.List.{List, [], ◌∷◌, ◌++◌, map, append_assoc, Permᴰ, Perm}
use mathlib.Core.Logic.{∥∥₁_elim}
use mathlib.Core.Option
use mathlib.Core.Option.{Option, none, some}
use Prim.Native.Nat.{ℕ, suc, ◌+◌}
use native.Mathlib.Nat.{ℕ_set}
use native.Mathlib.Omega.{arith}
use lib.IntN.{ℤ, pos}
use lib.ListN.{length, length-map, get_or}
use Rattle.report.specs.Rows.{Place, Held, transfer, vat, allowance, charge, preceding, map_entry, map_held, map_unmapped}
use Rattle.report.specs.Columns.{Column}
use Rattle.report.specs.Encoding.{text_cells, or_absent, rows_then}
use Rattle.settlement.specs.Shapes.{Identifier, Payee, Means, unset, card, debit, transfers, Period, Terms, Reading}
use Rattle.settlement.specs.Values.{Lent}
use Rattle.settlement.specs.Settlement.{reading}
use Rattle.settlement.specs.TableDoc.{shows, table_doc}
use Rattle.settlement.specs.Tree.{tree_doc, tree_of}
use Rattle.settlement.specs.Shown.{map_identifier, map_payee, map_means, map_terms, map_reading}
use Rattle.settlement.specs.Outcome.{read, outcome, shown}
use Rattle.settlement.specs.Result.{flag, identifier_cells, payee_cells, period_cells, means_cells, totals_cells, terms_row, Result, result_of, answer_row}
use Rattle.settlement.specs.Alike.{keep, of_kind, Alike}
use Rattle.settlement.specs.Exchange.{Exchanged}
use Rattle.settlement.proofs.AnyOrder.{same_settlement, order_free}
use Rattle.settlement.proofs.Results.{outcome_zero}
use Rattle.reader.specs.Answered.{room_of}
use Rattle.reader.specs.Calls.{Cell, number, absent, bytes, text_cell, column_cells, shown_row, natural}
use Rattle.reader.proofs.Calls.{cell_of, place_shown, text-shown, Left, same_rows, alike_rows}
use Rattle.reader.proofs.Counts.{counts_afforded}
use Rattle.rulzhamm.proofs.Rows.{regroup}
use Rattle.rulzhamm.specs.Calls.{plain_columns, identifier_columns, payee_columns, period_columns, payment_columns, means_columns, debit_columns, totals_columns, answer_columns, HostCall, HostPromised, number_at, host_exit, shown_answer, AlikeHostCalls, SameHostCalls, HostAfforded}

-- the cells of the answer's groups, whose texts are bytes
abbrev identifier_shown : Option (Identifier (List ℕ)) → List Cell
identifier_shown none = absent ∷ absent ∷ []
identifier_shown (some i) = bytes i.content ∷ cell_of i.scheme ∷ []

abbrev payee_shown : Option (Payee (List ℕ)) → List Cell
payee_shown none = number (pos 0) ∷ absent ∷ identifier_shown none ++ identifier_shown none
payee_shown (some p) = number (pos 1) ∷ cell_of p.name ∷ identifier_shown p.identifier ++ identifier_shown p.legal

abbrev means_shown : Means (List ℕ) → List Cell
means_shown unset = number (pos 0) ∷ absent ∷ absent ∷ number (pos 0) ∷ absent ∷ []
means_shown transfers = number (pos 0) ∷ absent ∷ absent ∷ number (pos 0) ∷ absent ∷ []
means_shown (card a b) = number (pos 1) ∷ cell_of a ∷ cell_of b ∷ number (pos 0) ∷ absent ∷ []
means_shown (debit a) = number (pos 0) ∷ absent ∷ absent ∷ number (pos 1) ∷ cell_of a ∷ []

-- of its terms, from the end on: BT-89, BT-90 and BG-22; before them BG-16, BG-18 and BG-19; all of them
abbrev end_shown : Terms (List ℕ) → List Cell
end_shown t = cell_of t.bt89 ∷ cell_of t.bt90 ∷ map number (totals_cells t.totals)

abbrev payment_shown : Terms (List ℕ) → List Cell
payment_shown t = number (flag t.paid) ∷ cell_of t.bt81 ∷ cell_of t.bt82 ∷ cell_of t.bt83 ∷ means_shown t.means ++ end_shown t

abbrev terms_shown : Terms (List ℕ) → List Cell
terms_shown t =
    cell_of t.bt5 ∷
    cell_of t.bt6 ∷
    number (or_absent t.bt7) ∷
    number (or_absent t.bt8) ∷
    number (or_absent t.bt9) ∷
    cell_of t.bt19 ∷
    cell_of t.bt20 ∷
    (payee_shown t.payee ++ (map number (period_cells t.period) ++ payment_shown t))

-- the numbers of the same parts
abbrev end_numbers : Terms Place → List ℤ
end_numbers t = text_cells t.bt89 ++ text_cells t.bt90 ++ totals_cells t.totals

abbrev payment_numbers : Terms Place → List ℤ
payment_numbers t = flag t.paid ∷ text_cells t.bt81 ++ text_cells t.bt82 ++ text_cells t.bt83 ++ means_cells t.means ++ end_numbers t

abbrev plain_numbers : Terms Place → List ℤ
plain_numbers t = text_cells t.bt5 ++ text_cells t.bt6 ++ or_absent t.bt7 ∷ or_absent t.bt8 ∷ or_absent t.bt9 ∷ text_cells t.bt19 ++ text_cells t.bt20

terms_grouped : (t : Terms Place) → terms_row t ≡ plain_numbers t ++ (payee_cells t.payee ++ (period_cells t.period ++ payment_numbers t))
unfolding terms_row
terms_grouped t = sym (regroup (plain_numbers t) (payee_cells t.payee) (period_cells t.period) (flag t.paid ∷ text_cells t.bt81) (text_cells t.bt82) (text_cells t.bt83) (means_cells t.means) (text_cells t.bt89) (text_cells t.bt90) (totals_cells t.totals))

-- and their columns
abbrev end_columns : List Column
end_columns = debit_columns ++ totals_columns

abbrev later_columns : List Column
later_columns = payment_columns ++ means_columns ++ end_columns

-- showing the answer is showing its places: each column takes the numbers of its term, and none is left
module _ (x : List ℕ) where
  identifier-shown : (i : Option (Identifier Place)) (c : List Column) (v : List ℤ) → shown_row (identifier_columns ++ c) x (identifier_cells i ++ v) ≡ identifier_shown (Option.map (map_identifier (shows x)) i) ++ shown_row c x v
  unfolding shown_row column_cells text_cell map_identifier
  identifier-shown none c v = refl
  identifier-shown (some i) c v = rw (place_shown x i.content, text-shown x i.scheme)

  payee-shown : (p : Option (Payee Place)) (c : List Column) (v : List ℤ) → shown_row (payee_columns ++ c) x (payee_cells p ++ v) ≡ payee_shown (Option.map (map_payee (shows x)) p) ++ shown_row c x v
  unfolding shown_row column_cells text_cell map_payee
  payee-shown none c v = refl
  payee-shown (some p) c v =
      rw (
        text-shown x p.name,
        append_assoc (identifier_cells p.identifier) (identifier_cells p.legal) v,
        identifier-shown p.identifier (identifier_columns ++ c) (identifier_cells p.legal ++ v),
        identifier-shown p.legal c v,
        append_assoc (identifier_shown (Option.map (map_identifier (shows x)) p.identifier)) (identifier_shown (Option.map (map_identifier (shows x)) p.legal)) (shown_row c x v),
      )

  period_shown : (p : Option Period) (c : List Column) (v : List ℤ) → shown_row (period_columns ++ c) x (period_cells p ++ v) ≡ map number (period_cells p) ++ shown_row c x v
  unfolding shown_row column_cells
  period_shown none c v = refl
  period_shown (some p) c v = refl

  means-shown : (m : Means Place) (c : List Column) (v : List ℤ) → shown_row (means_columns ++ c) x (means_cells m ++ v) ≡ means_shown (map_means (shows x) m) ++ shown_row c x v
  unfolding shown_row column_cells text_cell map_means
  means-shown unset c v = refl
  means-shown transfers c v = refl
  means-shown (card a b) c v = rw (text-shown x a, text-shown x b)
  means-shown (debit a) c v = rw (text-shown x a)

  end-shown : (t : Terms Place) → shown_row end_columns x (end_numbers t) ≡ end_shown (map_terms (shows x) t)
  unfolding shown_row column_cells map_terms
  end-shown t = rw (text-shown x t.bt89, text-shown x t.bt90)

  payment-shown : (t : Terms Place) → shown_row later_columns x (payment_numbers t) ≡ payment_shown (map_terms (shows x) t)
  unfolding shown_row column_cells map_terms
  payment-shown t =
      rw (text-shown x t.bt81, text-shown x t.bt82, text-shown x t.bt83)
      (ap (λ (l : List Cell). number (flag t.paid) ∷ cell_of (Option.map (shows x) t.bt81) ∷ cell_of (Option.map (shows x) t.bt82) ∷ cell_of (Option.map (shows x) t.bt83) ∷ l)
      (means-shown t.means end_columns (end_numbers t) ∙ ap (λ (l : List Cell). means_shown (map_means (shows x) t.means) ++ l) (end-shown t)))

  terms-shown : (t : Terms Place) → shown_row (plain_columns ++ payee_columns ++ period_columns ++ later_columns) x (terms_row t) ≡ terms_shown (map_terms (shows x) t)
  unfolding shown_row column_cells map_terms
  terms-shown t =
      ap (shown_row (plain_columns ++ payee_columns ++ period_columns ++ later_columns) x) (terms_grouped t) ∙
      rw (text-shown x t.bt5, text-shown x t.bt6, text-shown x t.bt19, text-shown x t.bt20)
      (ap (λ (l : List Cell). cell_of (Option.map (shows x) t.bt5) ∷ cell_of (Option.map (shows x) t.bt6) ∷ number (or_absent t.bt7) ∷ number (or_absent t.bt8) ∷ number (or_absent t.bt9) ∷ cell_of (Option.map (shows x) t.bt19) ∷ cell_of (Option.map (shows x) t.bt20) ∷ l)
      (payee-shown t.payee (period_columns ++ later_columns) (period_cells t.period ++ payment_numbers t) ∙
      ap (λ (l : List Cell). payee_shown (Option.map (map_payee (shows x)) t.payee) ++ l)
      (period_shown t.period later_columns (payment_numbers t) ∙ ap (λ (l : List Cell). map number (period_cells t.period) ++ l) (payment-shown t))))

  pub answer-shown :
      (r : Result) →
      shown_row answer_columns x (answer_row r) ≡
      number (pos r.number) ∷ number (pos r.place) ∷ number (pos r.held_count) ∷ number (pos r.entry_count) ∷ number (pos r.unmapped_count) ∷ terms_shown (map_terms (shows x) r.terms)
  unfolding shown_row column_cells answer_row
  answer-shown r =
      ap (λ (l : List Cell). number (pos r.number) ∷ number (pos r.place) ∷ number (pos r.held_count) ∷ number (pos r.entry_count) ∷ number (pos r.unmapped_count) ∷ l) (terms-shown r.terms)

-- the cells of the answer of a reading whose texts are bytes
abbrev answer_shown : Reading (List ℕ) → List Cell
answer_shown r = number (pos 0) ∷ number (pos 0) ∷ number (pos (length r.held)) ∷ number (pos (length r.entries)) ∷ number (pos (length r.unmapped)) ∷ terms_shown r.terms

-- readings that differ in order alone have as many rows
held-count : {X : Type 0} (l : List (Held X)) → length l ≡ length (of_kind 1 l) + length (of_kind 2 l) + length (of_kind 3 l) + length (of_kind 4 l) + length (of_kind 5 l)
unfolding of_kind keep
held-count [] = refl
held-count (transfer t ∷ l) = omega (arith, held-count l)
held-count (vat v ∷ l) = omega (arith, held-count l)
held-count (allowance a ∷ l) = omega (arith, held-count l)
held-count (charge a ∷ l) = omega (arith, held-count l)
held-count (preceding p ∷ l) = omega (arith, held-count l)

module _ {A : Type 0} where
  order_length : {l m : List A} → Permᴰ l m → length l ≡ length m
  order_length Permᴰ.nil = refl
  order_length (Permᴰ.cons e p) = ap suc (order_length p)
  order_length (Permᴰ.swap e f) = refl
  order_length (Permᴰ.trans p q) = order_length p ∙ order_length q

  perm_length : {l m : List A} → Perm l m → length l ≡ length m
  perm_length {l} {m} p = ∥∥₁_elim p (ℕ_set (length l) (length m)) order_length

alike_answer : {r q : Reading (List ℕ)} → Alike r q → answer_shown r ≡ answer_shown q
alike_answer {r} {q} a =
    let h : length r.held ≡ length q.held = held-count r.held ∙ rw (a.held 1, a.held 2, a.held 3, a.held 4, a.held 5) (sym (held-count q.held)) in
    rw (h, perm_length a.entries, a.unmapped, a.terms)

-- a call that read: it leaves what its reading says
module _ (L : Lent) (c : HostCall) (p : HostPromised L c) (e : number_at c 0 ≡ pos 0) where
  abbrev reading_of : Reading Place
  reading_of = reading L (table_doc c.table c.text) 0

  host_read : outcome L (room_of c.held c.entries c.unmapped) c.table c.text ≡ read reading_of
  unfolding answer_row
  host_read = outcome_zero L _ c.table c.text (ap (λ (a : List ℤ). natural (get_or a 0 (pos 0))) (sym p.answer) ∙ ap natural e)

  result : result_of (outcome L (room_of c.held c.entries c.unmapped) c.table c.text) ≡ result_of (read reading_of)
  result = ap result_of host_read

  answer_is : c.answer ≡ answer_row (result_of (read reading_of))
  answer_is = p.answer ∙ ap answer_row result

  answer_are : shown_answer c ≡ answer_shown (shown c.text reading_of)
  unfolding shown_answer shown map_reading result_of
  answer_are =
      ap (shown_row answer_columns c.text) answer_is ∙
      answer-shown c.text (result_of (read reading_of)) ∙
      rw (length-map reading_of.held (map_held (shows c.text)), length-map reading_of.entries (map_entry (shows c.text)), length-map reading_of.unmapped (map_unmapped (shows c.text)))

  left : Left reading_of c.held c.entries c.unmapped (host_exit c)
  unfolding answer_row result_of
  left =
      record {
        held_count = ap (λ (a : List ℤ). natural (get_or a 2 (pos 0))) answer_is;
        entry_count = ap (λ (a : List ℤ). natural (get_or a 3 (pos 0))) answer_is;
        unmapped_count = ap (λ (a : List ℤ). natural (get_or a 4 (pos 0))) answer_is;
        held_rows = p.held_rows ∙ ap (λ (r : Result). rows_then r.held c.held) result;
        entry_rows = p.entry_rows ∙ ap (λ (r : Result). rows_then r.entries c.entries) result;
        unmapped_rows = p.unmapped_rows ∙ ap (λ (r : Result). rows_then r.unmapped c.unmapped) result;
      }

-- two calls that read under the same mode, rules number and currency, and under identifiers that both are or both are not that of a conformant extension, the lists at entry being any
module _ (L : Lent) (c d : HostCall) (p : HostPromised L c) (q : HostPromised L d) (e : number_at c 0 ≡ pos 0) (f : number_at d 0 ≡ pos 0) where
  -- tables that describe the same settlement leave numbers that show the same
  pub host_calls_same : tree_of c.table c.text 0 ≡ tree_of d.table d.text 0 → SameHostCalls c d
  host_calls_same h =
      let a = same_settlement L _ _ c.table c.text d.table d.text _ _ (host_read L c p e) (host_read L d q f) h in
      record {
        left = e;
        right = f;
        answer = answer_are L c p e ∙ ap answer_shown a ∙ sym (answer_are L d q f);
        rows = same_rows (left L c p e) (left L d q f) a;
      }

  -- and except for an exchange, numbers that show the same but for the order of rows
  pub host_calls_order_free : Exchanged tree_doc (tree_of c.table c.text 0) (tree_of d.table d.text 0) → AlikeHostCalls c d
  host_calls_order_free h =
      let a = order_free L _ _ c.table c.text d.table d.text _ _ (host_read L c p e) (host_read L d q f) h in
      record {
        left = e;
        right = f;
        answer = answer_are L c p e ∙ alike_answer a ∙ sym (answer_are L d q f);
        rows = alike_rows (left L c p e) (left L d q f) a;
      }

-- every call, also one that refuses, answers at most a held row, four entries and an unmapped row for each record
pub host_calls_afforded : (L : Lent) (c : HostCall) → HostPromised L c → HostAfforded c
unfolding answer_row
host_calls_afforded L c p =
    let w = counts_afforded L (room_of c.held c.entries c.unmapped) c.table c.text in
    rw p.answer (record { held = record { count = refl; most = w.0 }; entries = record { count = refl; most = w.1 }; unmapped = record { count = refl; most = w.2 } })
