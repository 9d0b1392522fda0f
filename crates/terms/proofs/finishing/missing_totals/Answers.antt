use Rattle.terms.specs.Endings.{missing_totals}
use Rattle.values.proofs.Telling.{said_then}
use Rattle.terms.proofs.finishing.missing_totals.Goals as goal

pub returns : goal.returns
unfolding missing_totals
returns c =
    said_then (rw c.site.ensures at c.missing.ensures)
    (said_then (rw c.site-2.ensures at c.missing-2.ensures) (said_then (rw c.site-3.ensures at c.missing-3.ensures) (rw c.site-4.ensures at c.missing-4.ensures)))
