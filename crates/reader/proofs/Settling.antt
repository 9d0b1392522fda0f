-- What was read of an accepted table into lists with room is the reading that is defined.
use mathlib.Core.Path.{◌≡◌, refl, sym, ap, ◌∙◌}
use mathlib.Core.Bool.{true, false, true≢false}
use mathlib.Core.List.{List, ◌++◌}
use mathlib.Core.Option.{none}
use Prim.Native.Nat.{ℕ, ◌+◌, ◌*◌, ◌/◌, ◌≤◌}
use native.Mathlib.Omega.{arith}
use borrow.Author.Tests.{le-leb}
use lib.Dec.{ltb}
use lib.IntN.{ℤ}
use lib.ListN.{length, drop, replicate, length-replicate}
use Rattle.std.specs.Prelude.{Result, Ok, Err, is_ok}
use Rattle.table.specs.Table.{records, kids}
use Rattle.refusals.specs.Refusals.{refuse, at_root, refusal}
use Rattle.refusals.specs.Reasons.{number}
use Rattle.refusals.specs.declared.reasons.Reason.{Reason}
use Rattle.refusals.specs.declared.reasons.Reason.TheVariants.{Mode, Rules, Ragged, Oversized, NotRoot, Misplaced, Outside, NotUtf8, NotSettlement, Cramped}
use Rattle.refusals.specs.declared.reasons.Refusal.{Refusal}
use Rattle.links.specs.Links.{link_all}
use Rattle.links.proofs.Linking.{link_length, roomy_is, blank_zeros}
use Rattle.names.specs.Put.{put}
use Rattle.names.proofs.Puts.{put_eq}
use Rattle.report.specs.Rows.{Place}
use Rattle.report.specs.Encoding.{held_width, entry_width, unmapped_width, held_row, entry_row, unmapped_row, rows_of, rows_then}
use Rattle.report.specs.Placed.{Placed}
use Rattle.report.proofs.Placing.{placed_room}
use Rattle.report.proofs.RowsOf.{rows_length}
use Rattle.report.proofs.Widths.{held-width, entry-width, unmapped-width}
use Rattle.settlement.specs.Document.{Doc}
use Rattle.settlement.specs.Shapes.{Reading}
use Rattle.settlement.specs.Fits.{Fits}
use Rattle.settlement.specs.Outcome.{Room, refused, read, cramped, unless}
use Rattle.settlement.specs.Result.{blank_terms, result_of}
use Rattle.settlement.specs.Settlement as reading
use Rattle.settlement.specs.TableDoc.{table_doc}
use Rattle.settlement.specs.Values.{Lent}
use Rattle.settlement.proofs.Room.{reading_fits, strays_fit}
use Rattle.element.specs.LinkDoc.{link_doc}
use Rattle.element.proofs.Documents.{linked_doc}
use Rattle.values.proofs.Telling.{said_then}
use Rattle.unmapped.specs.Listed.{Listed}
use Rattle.unmapped.proofs.Notes.{listed_none, noted_all, table_order}
use Rattle.steps.specs.States.{state_of}
use Rattle.children.specs.Walks.{countable, Read}
use Rattle.steps.specs.declared.state.State as State
use Rattle.terms.specs.Terms.{terms_of}
use Rattle.reader.specs.Answers.{Answer, answer_of, Refused}
use Rattle.reader.specs.Answered.{room_of, Answered, AnsweredRows}
use Rattle.terms.specs.Endings.{Ended}
use Rattle.reader.specs.Spelled.{Spelled}
use Rattle.reader.specs.declared.reading.Reading as Code
use Rattle.terms.specs.declared.terms.Terms as Terms
use Rattle.report.specs.declared.held.HeldRows.{HeldRows}
use Rattle.values.specs.declared.saying.Entries.{Entries}
use Rattle.unmapped.specs.declared.note.UnmappedRows.{UnmappedRows}

-- numbers that were put at the front of a list with room for them
put_front : (l vs : List ℤ) {l' : List ℤ} → l' ≡ put l 0 vs → length vs ≤ length l → l' ≡ rows_then vs l
put_front l vs e h = e ∙ put_eq l 0 vs (omega arith) ∙ ap (λ (n : ℕ). vs ++ drop n l) {x = 0 + length vs} {y = length vs} (omega arith)

-- what was read by another document that is the same
read-as : {L : Lent} {D D' : Doc ℕ Place} {x cs cs' : List ℕ} {s : State.State} {h h' : HeldRows} {e e' : Entries} {u u' : UnmappedRows} → D ≡ D' → cs ≡ cs' → Read L D x cs s h h' e e' u u' → Read L D' x cs' s h h' e e' u u'
read-as p q r = rw (p, q) at r

-- the links of a table made in an array of zeros, at most 12,288, with room for every record: they spell its own document
pub own_document : (t x l : List ℕ) (n : ℕ) → l ≡ link_all t (replicate n 0) → records t * 3 ≤ n → n ≤ 12288 → Spelled t x l
own_document t x l n e h k =
    let z = length-replicate {A = ℕ} n 0 in
    record {
      document = rw e (linked_doc t x (replicate n 0) (roomy_is t (replicate n 0) (omega (arith, z)) (omega arith)) (blank_zeros n));
      few = omega (arith, z, link_length t (replicate n 0), ap length e);
    }

-- by links that do, all children are read
own_children : (t x l : List ℕ) → Spelled t x l → countable l ((link_doc t x l).kids 0) ≡ kids t 0
unfolding table_doc
own_children t x l s = rw (le-leb (length l) 12288 s.few) (ap (λ (D : Doc ℕ Place). D.kids 0) s.document)

module _
    (L : Lent) (t x : List ℕ) {h h' : HeldRows} {e e₁ e' : Entries} {u u' : UnmappedRows} {s : State.State} {f : Terms.Terms}
    (accepted : refusal t x ≡ none) (room : cramped (room_of h.list.now e.list.now u.list.now) t ≡ false)
    (l : List ℕ) (spelled : Spelled t x l)
    (first : (h.at ≡ 0) × (e.at ≡ 0) × (u.count ≡ 0))
    (walked : Read L (link_doc t x l) x (countable l ((link_doc t x l).kids 0)) s h h' e e₁ u u')
    (ended : Ended (reading.terms_of (state_of s)) (reading.late_of L.rules (state_of s)) e₁ f e') where
  abbrev whole : Reading Place
  whole = reading.reading L (table_doc t x) 0

  -- what the code answers
  abbrev code : Code.Reading
  code = record { held = h'.at / held_width; entries = e'.at / entry_width; unmapped = u'.count; terms = f }

  all_read : Read L (table_doc t x) x (kids t 0) s h h' e e₁ u u'
  all_read = read-as spelled.document (own_children t x l spelled) walked

  fits : Fits (room_of h.list.now e.list.now u.list.now) whole
  fits = reading_fits L (room_of h.list.now e.list.now u.list.now) t x accepted room

  terms_read : terms_of f ≡ whole.terms
  unfolding reading.reading reading.reading_of table_doc
  terms_read = ended.terms ∙ ap reading.terms_of all_read.state

  held_read : Placed h.list.now 0 (rows_of held_row whole.held) h'.list.now h'.at
  unfolding reading.reading reading.reading_of table_doc
  held_read = rw first.0 at all_read.held.rows

  entries_read : Placed e.list.now 0 (rows_of entry_row whole.entries) e'.list.now e'.at
  unfolding reading.reading reading.reading_of table_doc
  entries_read = rw first.1 at (said_then all_read.said (rw all_read.state at ended.said)).rows

  unmapped_read : Listed x u.list.now whole.unmapped u'.list.now u'.count
  unfolding reading.reading reading.reading_of table_doc
  unmapped_read = rw (table_order t x) (noted_all _ (listed_none x u.list.now) (omega (arith, strays_fit L (room_of h.list.now e.list.now u.list.now) t x accepted room)) (rw first.2 at all_read.noted.rows))

  pub answered : Answered (read whole) (answer_of (Ok code)) h.list.now h'.list.now e.list.now e'.list.now u.list.now u'.list.now
  unfolding result_of
  answered =
      let a = rows_length held_row held_width held-width whole.held in
      let b = rows_length entry_row entry_width entry-width whole.entries in
      let c = rows_length unmapped_row unmapped_width unmapped-width whole.unmapped in
      let held-room : length (rows_of held_row whole.held) ≤ length h.list.now = omega (arith, a, fits.held) in
      let entry-room : length (rows_of entry_row whole.entries) ≤ length e.list.now = omega (arith, b, fits.entries) in
      record {
        refusal = refl;
        place = refl;
        terms = terms_read;
        held_count = omega (arith, a, placed_room held_read (omega (arith, held-room)));
        entry_count = omega (arith, b, placed_room entries_read (omega (arith, entry-room)));
        unmapped_count = unmapped_read.count;
        held_rows = put_front h.list.now _ held_read.now held-room;
        entry_rows = put_front e.list.now _ entries_read.now entry-room;
        unmapped_rows = put_front u.list.now _ unmapped_read.rows (omega (arith, c, unmapped_read.room));
      }

  pub answered_rows : AnsweredRows (read whole) (answer_of (Ok code)) h h' e e' u u'
  answered_rows = record { held = walked.held.same; entries = ended.said.same ∙ walked.said.same; unmapped = walked.noted.same; answered = answered }

-- a refusal's answer
pub refused_is : {n j : ℕ} → Refused n j (record { refusal = n; place = j; terms = blank_terms; held = 0; entries = 0; unmapped = 0 })
refused_is = record { refusal = refl; place' = refl; terms = refl; held = refl; entries = refl; unmapped = refl }

-- and that of the code's
pub refused_as : {r : Result Code.Reading Refusal} {f g : Refusal} → r ≡ Err g → g ≡ f → Refused (number f.reason) f.record (answer_of r)
refused_as e p = rw (e, p) refused_is

-- no reason has the number 0, so an answer of number 0 is a reading
reason_above : (r : Reason) → ltb 0 (number r) ≡ true
reason_above Mode = refl
reason_above Rules = refl
reason_above Ragged = refl
reason_above Oversized = refl
reason_above NotRoot = refl
reason_above Misplaced = refl
reason_above Outside = refl
reason_above NotUtf8 = refl
reason_above NotSettlement = refl
reason_above Cramped = refl

pub zero_read : (r : Result Code.Reading Refusal) → (answer_of r).refusal ≡ 0 → is_ok r ≡ true
zero_read (Ok a) e = refl
zero_read (Err f) e = absurd (true≢false (sym (reason_above f.reason) ∙ ap (ltb 0) e))

-- a refusal has no rows
pub refused_answered : {n j : ℕ} {a : Answer} → Refused n j a → (h e u : List ℤ) → Answered (refused n j) a h h e e u u
unfolding result_of
refused_answered p h e u =
    record { refusal = p.refusal; place = p.place'; terms = p.terms; held_count = p.held; entry_count = p.entries; unmapped_count = p.unmapped; held_rows = refl; entry_rows = refl; unmapped_rows = refl }

-- refusal 10, and no refusal, by its test
module _ (m : Room) (t : List ℕ) (R : Reading Place) {a : Answer} where
  pub cramped_answered : cramped m t ≡ true → Refused 10 0 a → (h e u : List ℤ) → Answered (unless (refuse 10 (at_root (cramped m t)) none) R) a h h e e u u
  cramped_answered c p h e u = rw c (refused_answered p h e u)

  pub roomy_answered : {h h' e e' u u' : List ℤ} → cramped m t ≡ false → Answered (read R) a h h' e e' u u' → Answered (unless (refuse 10 (at_root (cramped m t)) none) R) a h h' e e' u u'
  roomy_answered c p = rw c p
