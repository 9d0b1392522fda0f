use native.Mathlib.Omega.{arith}
use Rattle.table.proofs.Records.{bytes_past}
use Rattle.table.proofs.table.Table.bytes_at.Goals as goal
use Rattle.table.proofs.table.Table.bytes_at.Goals.{else-r-records-via-then-r-records+else-r-k, else-r-records-via-else-r-records}

pub returns : goal.returns
returns c = bytes_past c.args.self.now.records.now c.args.self.now.text.now c.args.r c.args.k (elim c.else-r-records.branch [ else-r-records-via-then-r-records+else-r-k w ↦ omega arith | else-r-records-via-else-r-records w ↦ omega arith ])
