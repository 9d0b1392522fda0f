-- Laws of what a call answers in numbers.
use mathlib.Core.Path.{◌≡◌, refl, sym, ap, ◌∙◌}
use mathlib.Core.Bool.{Bool, true, false, cond, true≢false}
use mathlib.Core.List.{List, [], ◌∷◌}
use mathlib.Core.Option.{Option, none, some}
use Prim.Native.Nat.{ℕ, ◌*◌}
use native.Mathlib.Omega.{arith}
use borrow.Author.Tests.{eqb-true}
use lib.Dec.{eqb, ltb}
use lib.IntN.{pos}
use lib.ListN.{length, take, drop}
use Rattle.text.specs.Span.{clipped}
use Rattle.refusals.specs.Refusals.{refuse, record_refusal, size_refusal, refusal}
use Rattle.report.specs.Rows.{Place}
use Rattle.report.specs.Encoding.{absent, held_width, entry_width, unmapped_width, tidy, held_row, entry_row, unmapped_row}
use Rattle.report.proofs.RowsOf.{rows_length}
use Rattle.report.proofs.Widths.{held-width, entry-width, unmapped-width}
use Rattle.settlement.specs.Document.{or_else}
use Rattle.settlement.specs.Values.{Lent}
use Rattle.settlement.specs.Summation.{is_none}
use Rattle.settlement.specs.Settlement.{terms_of, debit_of, debited, reading}
use Rattle.settlement.specs.TableDoc.{shows, table_doc}
use Rattle.settlement.specs.Outcome.{Room, Outcome, refused, read, call_refusal, unless, outcome}
use Rattle.settlement.specs.Result.{terms_row, blank_terms, result_of}

-- the counts times the widths are the lengths of the rows
pub held-numbers : (o : Outcome) → held_width * (result_of o).held_count ≡ length (result_of o).held
unfolding result_of
held-numbers (refused n r) = refl
held-numbers (read r) = omega (arith, rows_length held_row held_width held-width r.held)

pub entry-numbers : (o : Outcome) → entry_width * (result_of o).entry_count ≡ length (result_of o).entries
unfolding result_of
entry-numbers (refused n r) = refl
entry-numbers (read r) = omega (arith, rows_length entry_row entry_width entry-width r.entries)

pub unmapped-numbers : (o : Outcome) → unmapped_width * (result_of o).unmapped_count ≡ length (result_of o).unmapped
unfolding result_of
unmapped-numbers (refused n r) = refl
unmapped-numbers (read r) = omega (arith, rows_length unmapped_row unmapped_width unmapped-width r.unmapped)

-- blank terms in numbers: every text -1, 0, every date -1, every group and every amount that may be absent 0
pub blank_numbers :
    terms_row blank_terms ≡
    absent ∷ pos 0 ∷ absent ∷ pos 0 ∷ absent ∷ absent ∷ absent ∷ absent ∷ pos 0 ∷ absent ∷ pos 0 ∷
    pos 0 ∷ absent ∷ pos 0 ∷ absent ∷ pos 0 ∷ absent ∷ pos 0 ∷ absent ∷ pos 0 ∷ absent ∷ pos 0 ∷
    pos 0 ∷ absent ∷ absent ∷
    pos 0 ∷ absent ∷ pos 0 ∷ absent ∷ pos 0 ∷ absent ∷ pos 0 ∷
    pos 0 ∷ absent ∷ pos 0 ∷ absent ∷ pos 0 ∷ pos 0 ∷ absent ∷ pos 0 ∷ absent ∷ pos 0 ∷ absent ∷ pos 0 ∷
    pos 0 ∷ pos 0 ∷ pos 0 ∷ pos 0 ∷ pos 0 ∷ pos 0 ∷ pos 0 ∷ pos 0 ∷ pos 0 ∷ pos 0 ∷ pos 0 ∷ pos 0 ∷ pos 0 ∷ pos 0 ∷ pos 0 ∷ pos 0 ∷ []
unfolding terms_row terms_of debit_of debited
blank_numbers = refl

-- the number of a refusal has property p
unfoldable pub refuses_as : (ℕ → Bool) → Option (ℕ × ℕ) → Bool
refuses_as p none = true
refuses_as p (some n) = p n.0

pub none_as : (p : ℕ → Bool) → refuses_as p none ≡ true
unfolding refuses_as
none_as p = refl

pub refuse_as : (p : ℕ → Bool) (k : ℕ) (o : Option ℕ) (next : Option (ℕ × ℕ)) → refuses_as p (refuse k o next) ≡ cond (is_none o) (refuses_as p next) (p k)
unfolding refuses_as
refuse_as p k none next = refl
refuse_as p k (some r) next = refl

pub either_as : (p : ℕ → Bool) (o q : Option (ℕ × ℕ)) → refuses_as p (or_else o q) ≡ cond (is_none o) (refuses_as p q) (refuses_as p o)
either_as p none q = refl
either_as p (some n) q = refl

pub either_way : (b : Bool) → cond b true true ≡ true
either_way true = refl
either_way false = refl

-- a refusal's number is not 0
unfoldable pub numbered : Option (ℕ × ℕ) → Bool
numbered = refuses_as (ltb 0)

-- as for all ten
pub call_numbered : (L : Lent) (m : Room) (t x : List ℕ) → numbered (call_refusal L m t x) ≡ true
unfolding numbered call_refusal refusal size_refusal record_refusal
call_numbered L m t x = simp (refuse_as, either_as, none_as, either_way)

-- so an outcome of number 0 is a reading
pub outcome_zero : (L : Lent) (m : Room) (t x : List ℕ) → (result_of (outcome L m t x)).number ≡ 0 → outcome L m t x ≡ read (reading L (table_doc t x) 0)
unfolding outcome result_of refuses_as numbered
outcome_zero L m t x e = go (call_refusal L m t x) (call_numbered L m t x) e
  where
    go : (o : Option (ℕ × ℕ)) → numbered o ≡ true → (result_of (unless o (reading L (table_doc t x) 0))).number ≡ 0 → unless o (reading L (table_doc t x) 0) ≡ read (reading L (table_doc t x) 0)
    go none h e = refl
    go (some n) h e = absurd (true≢false (sym h ∙ ap (ltb 0) e))

-- a place as a row shows it shows the same bytes: an empty one none
pub tidy_shows : (x : List ℕ) (p : Place) → clipped x (tidy p).start p.len ≡ shows x p
unfolding clipped tidy shows
tidy_shows x p = go (eqb p.len 0) refl
  where
    go : (b : Bool) → eqb p.len 0 ≡ b → take p.len (drop (cond b 0 p.start) x) ≡ take p.len (drop p.start x)
    go true e = rw (eqb-true p.len 0 e)
    go false e = refl
