use Rattle.printed.specs.Numbers.{row_count}
use Rattle.printed.proofs.count.row_count.Goals as goal

pub returns : goal.returns
unfolding row_count
returns c = simp (c.min.ensures, ← c.count_at.ensures)
