-- Witnesses of demand 3 at a host's calls: calls that read the tables of settlement's witness into lists of the least room, which held other numbers.
use mathlib.Core.Path.{◌≡◌, refl, ap}
use mathlib.Core.List.{List}
use Prim.Native.Nat.{ℕ}
use lib.IntN.{ℤ, pos}
use Rattle.report.specs.Encoding.{rows_then}
use Rattle.settlement.specs.Values.{Lent}
use Rattle.settlement.specs.Outcome.{outcome}
use Rattle.settlement.specs.Result.{Result, result_of, answer_row}
use Rattle.settlement.proofs.Witness.{lent, left_table, left_text, right_table, right_text, witness}
use Rattle.reader.specs.Answered.{room_of}
use Rattle.reader.proofs.Witness.{held_with, entries_with, unmapped_with, left_zero, right_zero}
use Rattle.rulzhamm.specs.Calls.{HostCall, HostPromised, number_at, AlikeHostCalls, SameHostCalls}
use Rattle.rulzhamm.proofs.Calls.{host_calls_same, host_calls_order_free}

module _ (L : Lent) (t x : List ℕ) (h e u : List ℤ) where
  abbrev result : Result
  result = result_of (outcome L (room_of h e u) t x)

  -- the call of an input
  abbrev host_call_of : HostCall
  host_call_of =
      record {
        table = t;
        text = x;
        held = h;
        entries = e;
        unmapped = u;
        answer = answer_row result;
        held' = rows_then result.held h;
        entries' = rows_then result.entries e;
        unmapped' = rows_then result.unmapped u;
      }

  -- does what `rulzhamm_read` promises
  pub host_call_promised : HostPromised L host_call_of
  host_call_promised = record { answer = refl; held_rows = refl; entry_rows = refl; unmapped_rows = refl }

abbrev left_call : ℕ → HostCall
left_call n = host_call_of lent left_table left_text (held_with n) (entries_with n) (unmapped_with n)

abbrev right_call : ℕ → HostCall
right_call n = host_call_of lent right_table right_text (held_with n) (entries_with n) (unmapped_with n)

-- all were read
left_accepted : (n : ℕ) → number_at (left_call n) 0 ≡ pos 0
unfolding answer_row
left_accepted n = ap pos (left_zero n)

right_accepted : (n : ℕ) → number_at (right_call n) 0 ≡ pos 0
unfolding answer_row
right_accepted n = ap pos (right_zero n)

-- two calls whose trees differ by an exchange
pub host_calls_witness : AlikeHostCalls (left_call 7) (right_call 9)
host_calls_witness = host_calls_order_free lent (left_call 7) (right_call 9) (host_call_promised lent _ _ _ _ _) (host_call_promised lent _ _ _ _ _) (left_accepted 7) (right_accepted 9) witness

-- two whose trees are equal
pub same_host_calls_witness : SameHostCalls (left_call 7) (left_call 9)
same_host_calls_witness = host_calls_same lent (left_call 7) (left_call 9) (host_call_promised lent _ _ _ _ _) (host_call_promised lent _ _ _ _ _) (left_accepted 7) (left_accepted 9) refl
