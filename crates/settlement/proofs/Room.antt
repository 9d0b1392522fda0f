-- A reading has room: what the records pay for, so that the three lent lists hold every row of an accepted call.
use mathlib.Core.Path.{◌≡◌}
use mathlib.Core.Bool.{false, ◌||◌}
use mathlib.Core.List.{List, [], ◌∷◌, foldl}
use mathlib.Core.Option.{Option, none, some}
use Prim.Native.Nat.{ℕ, ◌+◌, ◌*◌, ◌≤◌, ◌<◌, Ordering}
use native.Mathlib.Omega.{arith}
use native.Mathlib.Nat.{add-le-add, le_trans}
use borrow.Author.Tests.{ltb-false}
use lib.Dec.{ltb}
use lib.ListN.{length, length-append}
use Rattle.table.specs.Table.{records, kids}
use Rattle.refusals.specs.Refusals.{refusal}
use Rattle.refusals.proofs.Accepting.{accepted_is, neither}
use Rattle.report.specs.Encoding.{unmapped_width, held_room, entry_room, unmapped_room}
use Rattle.report.specs.Rows.{Place}
use Rattle.settlement.specs.Document.{Doc}
use Rattle.settlement.specs.Kinds.{creditor_reference, payment_means, payment_terms, summation}
use Rattle.settlement.specs.Shapes.{Means, unset, card, debit, transfers, State, blank, Reading}
use Rattle.settlement.specs.Values.{Lent}
use Rattle.settlement.specs.Walk.{said, placed, insert, insert_all}
use Rattle.settlement.specs.Settlement.{step, says_of, holds_of, strays_of, besides, debited, debit_of, late_of, unmapped_order, after, reading_of, reading}
use Rattle.settlement.specs.TableDoc.{table_doc}
use Rattle.settlement.specs.Outcome.{Room, read, cramped, outcome}
use Rattle.settlement.specs.Fits.{Within, Fits}
use Rattle.settlement.proofs.AnyOrder.{outcome_read}
use Rattle.settlement.proofs.Outcomes.{accepted, has_room}
use Rattle.settlement.proofs.Counting.{total, sizes}
use Rattle.settlement.proofs.Bounds.{one, list_most, missing_most}
use Rattle.settlement.proofs.Acts.{weight, pledges, says_weight, holds_weight, strays_weight}

-- what is said on the way is no more than each child may say
said_total : {C S O : Type 0} (step : S → C → S) (emit : S → C → List O) (w : C → ℕ) → ((s : S) (c : C) → length (emit s c) ≤ w c) → (s : S) (cs : List C) → length (said step emit s cs) ≤ total w cs
unfolding said
said_total step emit w h s [] = omega arith
said_total step emit w h s (c ∷ cs) = omega (arith, length-append (emit s c) (said step emit (step s c) cs), h s c, said_total step emit w h (step s c) cs)

-- sorted, there are no more names than were met
module _ {A : Type 0} (c : A → A → Ordering) where
  -- one more, or none
  insert_most : (u : A) (l : List A) → length (insert c u l) ≤ 1 + length l
  unfolding insert
  insert_most u [] = omega arith
  insert_most u (w ∷ l) = go (c u w) (insert_most u l)
    where
      go : (o : Ordering) → length (insert c u l) ≤ 1 + length l → length (placed c o u w l (insert c u l)) ≤ 1 + length (w ∷ l)
      go Ordering.lt h = omega arith
      go Ordering.eq h = omega arith
      go Ordering.gt h = omega arith

  -- all of them
  insert_all_most : (l us : List A) → length (insert_all c l us) ≤ length l + length us
  unfolding insert_all
  insert_all_most l [] = omega arith
  insert_all_most l (u ∷ us) = omega (arith, insert_most u l, insert_all_most (insert c u l) us)

module _ {N X : Type 0} (L : Lent) (D : Doc N X) where
  -- entries on the way, with those that are pledged after it
  says_total : (s : State X) (cs : List N) → length (said (step L D) (says_of L D) s cs) + pledges L D (foldl (step L D) s cs) ≤ 4 * total (weight L D) cs + pledges L D s
  unfolding said
  says_total s [] = omega arith
  says_total s (c ∷ cs) = omega (arith, length-append (says_of L D s c) (said (step L D) (says_of L D) (step L D s c) cs), says_weight L D s c, says_total (step L D s c) cs)

  -- beside a card or transfers, one for the mandate and one for the creditor identifier
  besides_most : (m : Means X) (a c : Option X) → length (besides m a c).says ≤ one a + one c
  unfolding besides
  besides_most m none none = omega arith
  besides_most m none (some c) = omega arith
  besides_most m (some a) none = omega arith
  besides_most m (some a) (some c) = omega arith

  -- else none
  debited_most : (m : Means X) (a c : Option X) → length (debited m a c).says ≤ one a + one c
  unfolding debited
  debited_most unset a c = omega arith
  debited_most (debit d) a c = omega arith
  debited_most (card x y) a c = besides_most (card x y) a c
  debited_most transfers a c = besides_most transfers a c

  -- at the end: four, and those that were pledged
  late_most : (s : State X) → length (late_of L.rules s) ≤ 4 + pledges L D s
  unfolding late_of debit_of
  late_most s =
      simp length-append
      (le_trans
      (add-le-add
      (list_most 4 _ _ (s summation)
      (simp length-append (add-le-add (missing_most L D _ _) (add-le-add (missing_most L D _ _) (add-le-add (missing_most L D _ _) (missing_most L D _ _)))))
      (λ t. omega arith))
      (debited_most (s payment_means).means (s payment_terms).mandate (s creditor_reference)))
      (omega arith))

  -- four entries for each child and each of their children, and four for the settlement
  entries_most : (cs : List N) → length (reading_of L D cs).entries ≤ 4 + 4 * total (weight L D) cs
  unfolding reading_of after
  entries_most cs =
      omega (arith, length-append (said (step L D) (says_of L D) (blank X) cs) (late_of L.rules (after L D cs)), says_total (blank X) cs, late_most (after L D cs))

  -- a held row for each
  held_most : (cs : List N) → length (reading_of L D cs).held ≤ total (weight L D) cs
  unfolding reading_of
  held_most cs = said_total (step L D) (holds_of L D) (weight L D) (holds_weight L D) (blank X) cs

  -- a name that is not mapped for each
  strays_most : (cs : List N) → length (said (step L D) (strays_of L D) (blank X) cs) ≤ total (weight L D) cs
  strays_most cs = said_total (step L D) (strays_of L D) (weight L D) (strays_weight L D) (blank X) cs

  -- an unmapped name for each
  unmapped_most : (cs : List N) → length (reading_of L D cs).unmapped ≤ total (weight L D) cs
  unfolding reading_of
  unmapped_most cs =
      le_trans (insert_all_most (unmapped_order D) [] (said (step L D) (strays_of L D) (blank X) cs))
      (omega (arith, strays_most cs))

module _ (L : Lent) (t x : List ℕ) where
  -- a table with a record pays for its reading: a held row, four entries and an unmapped name for each record
  pub reading_within : 0 < records t → Within t (reading L (table_doc t x) 0)
  unfolding reading table_doc
  reading_within h =
      let cs = kids t 0 in
      record {
        held = omega (arith, sizes t h, held_most L (table_doc t x) cs);
        entries = omega (arith, sizes t h, entries_most L (table_doc t x) cs);
        unmapped = omega (arith, sizes t h, unmapped_most L (table_doc t x) cs);
      }

  -- names that are not mapped, met again or not, are no more than the records
  pub strays_within : 0 < records t → length (said (step L (table_doc t x)) (strays_of L (table_doc t x)) (blank Place) (kids t 0)) ≤ records t
  unfolding table_doc
  strays_within h = omega (arith, sizes t h, strays_most L (table_doc t x) (kids t 0))

-- so does the table of an outcome that is a reading
pub outcome_within : (L : Lent) (m : Room) (t x : List ℕ) (r : Reading Place) → outcome L m t x ≡ read r → Within t r
outcome_within L m t x r e = rw (outcome_read L m t x r e) (reading_within L t x (accepted_is t x (accepted L m t x r e)).some_records)

-- the room that refusal 10 asks for, in numbers
has_numbers : (m : Room) (t : List ℕ) → cramped m t ≡ false → (held_room * records t ≤ m.held) × (entry_room * records t ≤ m.entries) × (unmapped_room * records t ≤ m.unmapped)
unfolding cramped
has_numbers m t r =
    let n = records t in
    let c = neither (ltb m.held (held_room * n)) (ltb m.entries (entry_room * n) || ltb m.unmapped (unmapped_room * n)) r in
    let d = neither (ltb m.entries (entry_room * n)) (ltb m.unmapped (unmapped_room * n)) c.1 in
    (ltb-false m.held (held_room * n) c.0, ltb-false m.entries (entry_room * n) d.0, ltb-false m.unmapped (unmapped_room * n) d.1)

-- where a table is accepted and the lists have the room that refusal 10 asks for, all rows fit into them
pub reading_fits : (L : Lent) (m : Room) (t x : List ℕ) → refusal t x ≡ none → cramped m t ≡ false → Fits m (reading L (table_doc t x) 0)
reading_fits L m t x a r =
    let w = reading_within L t x (accepted_is t x a).some_records in
    let n = has_numbers m t r in
    record { held = omega (arith, n.0, w.held); entries = omega (arith, n.1, w.entries); unmapped = omega (arith, n.2, w.unmapped) }

-- so they do for every outcome that is a reading
pub outcome_fits : (L : Lent) (m : Room) (t x : List ℕ) (r : Reading Place) → outcome L m t x ≡ read r → Fits m r
outcome_fits L m t x r e = rw (outcome_read L m t x r e) (reading_fits L m t x (accepted L m t x r e) (has_room L m t x r e))

-- names that are not mapped fit, too, met again or not
pub strays_fit : (L : Lent) (m : Room) (t x : List ℕ) → refusal t x ≡ none → cramped m t ≡ false → length (said (step L (table_doc t x)) (strays_of L (table_doc t x)) (blank Place) (kids t 0)) * unmapped_width ≤ m.unmapped
strays_fit L m t x a r = omega (arith, (has_numbers m t r).2, strays_within L t x (accepted_is t x a).some_records)
