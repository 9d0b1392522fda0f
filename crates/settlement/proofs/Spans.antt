-- Every text of an accepted reading is empty or lies inside the lent text: the reading goes along with the map that forgets where a place lies.
use mathlib.Core.Path.{◌≡◌, refl, sym, ap}
use mathlib.Core.Bool.{cond}
use mathlib.Core.List.{List, [], ◌∷◌, map}
use mathlib.Core.Logic.{◌⊎◌, inl, inr}
use mathlib.Core.Option
use mathlib.Core.Option.{Option, none, some}
use Prim.Native.Nat.{ℕ, zero, suc, ◌+◌, ◌*◌, ◌-◌, ◌≤◌, ◌<◌, min}
use native.Mathlib.Omega.{arith}
use native.Mathlib.Decide.{dec_le}
use borrow.Author.Tests.{ltb-false, ne_eqb}
use lib.Dec.{ltb, eqb}
use lib.IntN.{pos}
use lib.ListN.{length}
use Rattle.text.proofs.Spans.{past}
use Rattle.table.specs.Table.{records, cell, named, kids, attrs, first_of}
use Rattle.refusals.specs.Refusals.{beyond, outside, refusal}
use Rattle.refusals.specs.Acceptance.{Accepted}
use Rattle.refusals.proofs.Accepting.{accepted_is, neither}
use Rattle.report.specs.Encoding.{tidy, place_start, place_length, text_start, text_length}
use Rattle.report.specs.Rows.{Place}
use Rattle.settlement.specs.Document.{Doc, maybe}
use Rattle.settlement.specs.Shapes.{Reading}
use Rattle.settlement.specs.Values.{Lent}
use Rattle.settlement.specs.Settlement.{reading}
use Rattle.settlement.specs.TableDoc.{name_at, text_at, own_text_at, shows, table_doc}
use Rattle.settlement.specs.Outcome.{Room, read, outcome}
use Rattle.settlement.specs.Inside.{Inside, Spot, AllInside, PlaceCells, empty_text, inside_text, TextCells, absent_text, present_text}
use Rattle.settlement.proofs.AnyOrder.{outcome_read}
use Rattle.settlement.proofs.Maps.{option_cond, option_maybe}
use Rattle.settlement.proofs.Natural.{Hom, reading_n}
use Rattle.settlement.proofs.Outcomes.{accepted}

-- a part of a place inside is inside
cut_inside : (x : List ℕ) (p : Place) (i n : ℕ) → Inside x p → Inside x (record { start = p.start + i; len = min n (p.len - i) })
cut_inside x p i n (inl e) = inl (omega arith)
cut_inside x p i n (inr h) = elim (dec_le i p.len) [ yes l ↦ inr (omega arith) | no l ↦ inl (omega arith) ]

-- a list of themselves
map_self : (l : List ℕ) → l ≡ map (λ (n : ℕ). n) l
map_self [] = refl
map_self (n ∷ l) = ap (λ (m : List ℕ). n ∷ m) (map_self l)

module _ (t x : List ℕ) (a : Accepted t x) where
  -- the name and the text of a record of the table, by refusal 7
  record_inside : (j : ℕ) → j < records t → Inside x (name_at t j) × Inside x (text_at t j)
  unfolding outside beyond
  record_inside j h =
      let b = neither (ltb (length x) (cell t j 2 + cell t j 3)) (ltb (length x) (cell t j 4 + cell t j 5)) (a.inside j h) in
      (inr (ltb-false _ _ b.0), inr (ltb-false _ _ b.1))

  -- those of a record behind it, which has no numbers
  behind_inside : (j : ℕ) → records t ≤ j → Inside x (name_at t j) × Inside x (text_at t j)
  behind_inside j h = (inl (sym (past t (j * 6 + 3) (omega (arith, a.whole_records)))), inl (sym (past t (j * 6 + 5) (omega (arith, a.whole_records)))))

  -- of any
  any_inside : (j : ℕ) → Inside x (name_at t j) × Inside x (text_at t j)
  any_inside j = elim (dec_le (records t) j) [ yes h ↦ behind_inside j h | no h ↦ record_inside j (omega arith) ]

  -- a record's name
  name_spot : ℕ → Spot x
  name_spot j = record { place = name_at t j; inside = (any_inside j).0 }

  -- its text
  text_spot : ℕ → Spot x
  text_spot j = record { place = text_at t j; inside = (any_inside j).1 }

  -- the table as a document of places that are known to be inside
  unfoldable spot_doc : Doc ℕ (Spot x)
  spot_doc =
      record {
        name = name_spot;
        text = λ j. cond (eqb (cell t j 5) 0) none (some (text_spot j));
        attr = λ j w. maybe none (λ i. some (text_spot i)) (first_of (named t x w) (attrs t j));
        kids = kids t;
        bytes = λ s. shows x s.place;
        cut = λ s i n. record { place = record { start = s.place.start + i; len = min n (s.place.len - i) }; inside = cut_inside x s.place i n s.inside };
        empty = record { place = record { start = 0; len = 0 }; inside = inl refl };
      }

  -- it maps onto the table
  spot_hom : Hom spot_doc (table_doc t x) (λ (n : ℕ). n) (λ (s : Spot x). s.place)
  unfolding spot_doc table_doc own_text_at name_spot text_spot
  spot_hom =
      record {
        name = λ j. refl;
        text = λ j. sym (option_cond (λ (s : Spot x). s.place) (eqb (cell t j 5) 0) none (some (text_spot j)));
        attr = λ j w. sym (option_maybe (λ (s : Spot x). s.place) none (λ i. some (text_spot i)) (first_of (named t x w) (attrs t j)));
        kids = λ j. map_self (kids t j);
        bytes = λ s. refl;
        cut = λ s i n. refl;
        empty = refl;
      }

-- each text of the reading of an accepted table is empty or lies inside the lent text
pub reading_inside : (L : Lent) (t x : List ℕ) → refusal t x ≡ none → AllInside x (reading L (table_doc t x) 0)
reading_inside L t x e =
    let a = accepted_is t x e in
    record { spots = reading L (spot_doc t x a) 0; same = reading_n L (spot_doc t x a) (table_doc t x) (λ (n : ℕ). n) (λ (s : Spot x). s.place) (spot_hom t x a) 0 }

-- so is each text of an outcome that is a reading
pub outcome_inside : (L : Lent) (m : Room) (t x : List ℕ) (r : Reading Place) → outcome L m t x ≡ read r → AllInside x r
outcome_inside L m t x r e = rw (outcome_read L m t x r e) (reading_inside L t x (accepted L m t x r e))

-- the two numbers of such a text in a row
pub place-cells : (x : List ℕ) (s : Spot x) → PlaceCells x (place_start s.place) (place_length s.place)
unfolding tidy
place-cells x s = go s.place.start s.place.len s.inside
  where
    go : (i n : ℕ) → (n ≡ 0) ⊎ (i + n ≤ length x) → PlaceCells x (pos (cond (eqb n 0) 0 i)) (pos n)
    go i zero h = empty_text
    go i (suc n) (inl e) = absurd (omega arith)
    go i (suc n) (inr h) = rw (ne_eqb (suc n) 0 (λ e. omega arith)) (inside_text i (suc n) (omega arith) h)

-- of one that may be absent
pub text-cells : (x : List ℕ) (o : Option (Spot x)) → TextCells x (text_start (Option.map (λ (s : Spot x). s.place) o)) (text_length (Option.map (λ (s : Spot x). s.place) o))
text-cells x none = absent_text
text-cells x (some s) = present_text (place-cells x s)
