use Rattle.reader.proofs.Settling.{answered_rows}
use Rattle.reader.proofs.call.read_rows.Goals as goal

pub returns : goal.returns
returns c = let r = c.requires in answered_rows _ _ _ r.accepted r.room _ r.spelled r.first c.settlement-s.ensures c.finish-terms.ensures
