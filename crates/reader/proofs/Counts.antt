-- How many rows a call answers: at most a held row, four entries and an unmapped row for each record, also where it refuses.
use mathlib.Core.Path.{◌≡◌, refl}
use mathlib.Core.List.{List}
use Prim.Native.Nat.{ℕ, ◌*◌, ◌≤◌}
use native.Mathlib.Omega.{arith}
use Rattle.table.specs.Table.{records}
use Rattle.report.specs.Encoding.{record_entries}
use Rattle.settlement.specs.Values.{Lent}
use Rattle.settlement.specs.Outcome.{Room, Outcome, refused, read, outcome}
use Rattle.settlement.specs.Result.{result_of}
use Rattle.settlement.proofs.Room.{outcome_within}
use Rattle.reader.specs.Answered.{room_of}
use Rattle.reader.specs.Calls.{Call, Promised, exit_of, Afforded}

-- the counts of every outcome
pub counts_afforded : (L : Lent) (m : Room) (t x : List ℕ) → ((result_of (outcome L m t x)).held_count ≤ records t) × ((result_of (outcome L m t x)).entry_count ≤ record_entries * records t) × ((result_of (outcome L m t x)).unmapped_count ≤ records t)
unfolding result_of
counts_afforded L m t x = go (outcome L m t x) refl
  where
    go : (o : Outcome) → outcome L m t x ≡ o → ((result_of o).held_count ≤ records t) × ((result_of o).entry_count ≤ record_entries * records t) × ((result_of o).unmapped_count ≤ records t)
    go (refused n r) e = (omega arith, omega arith, omega arith)
    go (read r) e = let w = outcome_within L m t x r e in (w.held, w.entries, w.unmapped)

-- so the numbers that a call answers
pub calls_afforded : (L : Lent) (c : Call) → Promised L c → Afforded c.table (exit_of c)
calls_afforded L c p =
    let w = counts_afforded L (room_of c.held c.entries c.unmapped) c.table c.text in
    record { held = omega (arith, p.held_count, w.0); entries = omega (arith, p.entry_count, w.1); unmapped = omega (arith, p.unmapped_count, w.2) }
