-- Laws of the numbers in an answer: its record and its counts are small.
use mathlib.Core.Path.{◌≡◌, refl}
use mathlib.Core.Bool.{Bool, true, false, cond, ◌||◌}
use mathlib.Core.List.{List}
use mathlib.Core.Option.{Option, none, some}
use Prim.Native.Nat.{ℕ, zero, suc, ◌+◌, ◌-◌, ◌≤◌}
use native.Mathlib.Omega.{arith}
use borrow.Author.Tests.{ltb-false}
use lib.Dec.{ltb}
use lib.ListN.{length}
use Rattle.table.specs.Table.{records, first_from}
use Rattle.refusals.specs.Refusals.{ragged, oversized, not_root, misplaced, outside, not_utf8, not_settlement, refuse, at_root, refusal, size_refusal, record_refusal}
use Rattle.refusals.proofs.Accepting.{accepted_is}
use Rattle.settlement.specs.Document.{or_else}
use Rattle.settlement.specs.Settlement.{reading}
use Rattle.settlement.specs.TableDoc.{table_doc}
use Rattle.settlement.specs.Values.{Lent}
use Rattle.settlement.specs.Outcome.{Room, Outcome, refused, read, unknown_mode, unknown_rules, cramped, call_refusal, unless, outcome}
use Rattle.settlement.specs.Result.{result_of}
use Rattle.settlement.proofs.Outcomes.{accepted}
use Rattle.settlement.proofs.Room.{outcome_within}

-- a record, 0 where there is none
abbrev record_of : Option ℕ → ℕ
record_of none = 0
record_of (some r) = r

-- a refusal's record
abbrev place_of : Option (ℕ × ℕ) → ℕ
place_of none = 0
place_of (some q) = q.1

-- the first of m records from j on comes before the one behind them
first_below : (p : ℕ → Bool) (j m : ℕ) → record_of (first_from p j m) ≤ j + m
unfolding first_from
first_below p j zero = omega arith
first_below p j (suc m) = go (p j) (first_below p (suc j) m)
  where
    go : (b : Bool) → record_of (first_from p (suc j) m) ≤ suc j + m → record_of (cond b (some j) (first_from p (suc j) m)) ≤ j + suc m
    go true h = omega arith
    go false h = omega (arith, h)

-- the first of the records after record 0
later_below : (p : ℕ → Bool) (n : ℕ) → record_of (first_from p 1 (n - 1)) ≤ n
unfolding first_from
later_below p zero = omega arith
later_below p (suc n) = omega (arith, first_below p 1 (suc n - 1))

module _ (n : ℕ) where
  root_below : (b : Bool) → record_of (at_root b) ≤ n
  root_below true = omega arith
  root_below false = omega arith

  -- one refusal, or the next
  refuse_below : (k : ℕ) (o : Option ℕ) (next : Option (ℕ × ℕ)) → record_of o ≤ n → place_of next ≤ n → place_of (refuse k o next) ≤ n
  refuse_below k none next f g = g
  refuse_below k (some r) next f g = f

  either_below : (o p : Option (ℕ × ℕ)) → place_of o ≤ n → place_of p ≤ n → place_of (or_else o p) ≤ n
  either_below none p f g = g
  either_below (some r) p f g = f

  -- record 0 is refused, or the next
  at-root : (k : ℕ) (b : Bool) (next : Option (ℕ × ℕ)) → place_of next ≤ n → place_of (refuse k (at_root b) next) ≤ n
  at-root k b next g = refuse_below k (at_root b) next (root_below b) g

-- no refusal behind 5 names a record beyond the table
records_below : (t x : List ℕ) → place_of (record_refusal t x) ≤ records t
unfolding record_refusal
records_below t x =
    let n = records t in
    refuse_below n 6 (first_from (misplaced t) 1 (n - 1)) _ (later_below (misplaced t) n)
    (refuse_below n 7 (first_from (outside t x) 0 (n - 0)) _ (omega (arith, first_below (outside t x) 0 (n - 0)))
    (refuse_below n 8 (first_from (not_utf8 t x) 0 (n - 0)) _ (omega (arith, first_below (not_utf8 t x) 0 (n - 0))) (at-root n 9 (not_settlement t x) none (omega arith))))

-- and a table of more than 4,096 records is refused before that, at record 0
sizes_below : (t x : List ℕ) → place_of (size_refusal t x) ≤ 4096
unfolding size_refusal oversized
sizes_below t x = go (ltb 4096 (records t)) refl
  where
    go : (b : Bool) → ltb 4096 (records t) ≡ b → place_of (refuse 4 (at_root (b || ltb 1048576 (length x))) (refuse 5 (at_root (not_root t)) (record_refusal t x))) ≤ 4096
    go true e = omega arith
    go false e =
        let few = ltb-false 4096 (records t) e in
        at-root 4096 4 (ltb 1048576 (length x)) _ (at-root 4096 5 (not_root t) _ (omega (arith, few, records_below t x)))

table_below : (t x : List ℕ) → place_of (refusal t x) ≤ 4096
unfolding refusal
table_below t x = at-root 4096 3 (ragged t) _ (sizes_below t x)

module _ (L : Lent) (m : Room) (t x : List ℕ) where
  call_below : place_of (call_refusal L m t x) ≤ 4096
  unfolding call_refusal
  call_below =
      at-root 4096 1 (unknown_mode L) _
      (at-root 4096 2 (unknown_rules L) _ (either_below 4096 (refusal t x) _ (table_below t x) (at-root 4096 10 (cramped m t) none (omega arith))))

  -- the record of an answer is at most 4,096
  pub place_small : (result_of (outcome L m t x)).place ≤ 4096
  unfolding outcome result_of
  place_small = go (call_refusal L m t x) call_below
    where
      go : (o : Option (ℕ × ℕ)) → place_of o ≤ 4096 → (result_of (unless o (reading L (table_doc t x) 0))).place ≤ 4096
      go none h = omega arith
      go (some q) h = h

  -- and so are its rows, four times as many entries
  pub counts_small : ((result_of (outcome L m t x)).held_count ≤ 4096) × ((result_of (outcome L m t x)).entry_count ≤ 16384) × ((result_of (outcome L m t x)).unmapped_count ≤ 4096)
  unfolding result_of
  counts_small = go (outcome L m t x) refl
    where
      go : (o : Outcome) → outcome L m t x ≡ o → ((result_of o).held_count ≤ 4096) × ((result_of o).entry_count ≤ 16384) × ((result_of o).unmapped_count ≤ 4096)
      go (refused n r) e = (omega arith, omega arith, omega arith)
      go (read r) e =
          let w = outcome_within L m t x r e in
          let few = (accepted_is t x (accepted L m t x r e)).few_records in
          (omega (arith, w.held, few), omega (arith, w.entries, few), omega (arith, w.unmapped, few))
