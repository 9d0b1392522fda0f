-- What a step of the walk over the children of a payment means did.
use Rattle.std.specs.Prelude.{◌≡◌, List, ◌++◌, map, ℕ}
use Rattle.report.specs.Rows.{Place, Transfer, transfer}
use Rattle.report.specs.HeldRows.{Holds}
use Rattle.report.specs.declared.held.HeldRows.{HeldRows}
use Rattle.settlement.specs.Payments.{Paying}
use Rattle.values.specs.Told.{Said}
use Rattle.values.specs.declared.saying.Entries.{Entries}
use Rattle.unmapped.specs.Acted.{Notes}
use Rattle.unmapped.specs.declared.note.UnmappedRows.{UnmappedRows}
use Rattle.payment.specs.Walks.{payment_of, waits, waiting_rows}
use Rattle.payment.specs.declared.paying.Walk as Code

-- from walk w to walk r all of s was made: its rows are those that were put, `rows`, and behind them that of the account that waits
pub record Walked (s : Paying Place) (w r : Code.Walk) (x : List ℕ) (h h' : HeldRows) (e e' : Entries) (u u' : UnmappedRows) : Type 0 where
  pub payment : payment_of r.payment ≡ s.payment
  pub last : waits r.waiting ≡ s.last
  pub rows : List (Transfer Place)
  pub whole : s.rows ≡ rows ++ waiting_rows r.waiting
  pub held : Holds (map transfer rows) h h'
  pub said : Said s.says e e'
  pub noted : Notes x s.strays u u'
