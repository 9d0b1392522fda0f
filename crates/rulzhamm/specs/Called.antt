-- What a host's call did, against what it is defined to answer (document 01, "Rows" and "Where each refusal is checked"; docs/LAYOUT.md).
use Rattle.std.specs.Prelude.{◌≡◌, List, ℤ}
use Rattle.report.specs.Encoding.{rows_then}
use Rattle.settlement.specs.Outcome.{Outcome}
use Rattle.settlement.specs.Result.{result_of, answer_row}

-- the answer's row is that of the outcome, whatever it held, and the outcome's rows stand at the front of each list; a refusal has no rows, so that all three lists are as they were
pub record Called (o : Outcome) (answer' held held' entries entries' unmapped unmapped' : List ℤ) : Type 0 where
  pub answer : answer' ≡ answer_row (result_of o)
  pub held_rows : held' ≡ rows_then (result_of o).held held
  pub entry_rows : entries' ≡ rows_then (result_of o).entries entries
  pub unmapped_rows : unmapped' ≡ rows_then (result_of o).unmapped unmapped
