-- What was put into the line that is being written.
use Rattle.std.specs.Prelude.{◌≡◌, List, ℕ}
use Rattle.report.specs.Placed.{Placed}
use Rattle.decimals.specs.declared.line.Line.{Line}

-- the line is the same lent list, into which these bytes were put at the place of the next
pub record Puts (bytes : List ℕ) (before after : Line) : Type 0 where
  pub same : after.out.ghost_name ≡ before.out.ghost_name
  pub placed : Placed before.out.now before.at bytes after.out.now after.at
