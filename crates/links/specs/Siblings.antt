-- The records that an iterator over links has left.
use Rattle.std.specs.Prelude.{List, ℕ}
use Rattle.links.specs.Links.{chain}
use Rattle.links.specs.declared.siblings.Siblings.{Siblings}

unfoldable pub siblings : Siblings → List ℕ
siblings s = chain s.links.now s.left s.next
