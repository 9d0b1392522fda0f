-- What was put among the rows of what is held.
use Rattle.std.specs.Prelude.{◌≡◌, List}
use Rattle.report.specs.Rows.{Place, Held}
use Rattle.report.specs.Encoding.{held_row, rows_of}
use Rattle.report.specs.Placed.{Placed}
use Rattle.report.specs.declared.held.HeldRows.{HeldRows}

-- the rows are the same lent list, into which these were put at the place of the next
pub record Holds (hs : List (Held Place)) (before after : HeldRows) : Type 0 where
  pub same : after.list.ghost_name ≡ before.list.ghost_name
  pub rows : Placed before.list.now before.at (rows_of held_row hs) after.list.now after.at
