-- Links by which an accepted table is read.
use Rattle.std.specs.Prelude.{◌≡◌, List, ℕ, ◌≤◌, length}
use Rattle.settlement.specs.TableDoc.{table_doc}
use Rattle.element.specs.LinkDoc.{link_doc}

-- the document that they spell is the table's own, and there are no more than a table of 4,096 records has
pub record Spelled (t x links : List ℕ) : Type 0 where
  pub document : link_doc t x links ≡ table_doc t x
  pub few : length links ≤ 12288
