-- A place that the table does not have.
use mathlib.Core.Path.{◌≡◌}
use mathlib.Core.List.{List, []}
use Prim.Native.Nat.{ℕ, ◌+◌, ◌*◌, ◌≤◌}
use lib.ListN.{length}
use Rattle.text.specs.Span.{clipped}
use Rattle.text.proofs.Spans.{past}
use Rattle.table.specs.Table.{cell}

-- where the second of two numbers is not there, no bytes are at their place
pub bytes_past : (t x : List ℕ) (r k : ℕ) → length t ≤ r * 6 + (k + 1) → [] ≡ clipped x (cell t r k) (cell t r (k + 1))
unfolding clipped
bytes_past t x r k h = rw (← past t (r * 6 + (k + 1)) h)
