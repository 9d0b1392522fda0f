use native.Mathlib.Omega.{arith}
use Rattle.refusals.proofs.Accepting.{accepted_is}
use Rattle.reader.proofs.Settling.{own_document}
use Rattle.reader.proofs.call.link_and_read.Goals as goal

pub read_linked-requires : goal.read_linked-requires
read_linked-requires c =
    let p = c.requires in
    (p.0, p.1, own_document _ _ _ 768 c.link.ensures (omega arith) (omega arith))

pub read_linked-requires-2 : goal.read_linked-requires-2
read_linked-requires-2 c =
    let p = c.requires in
    (p.0, p.1, own_document _ _ _ 12288 c.link-2.ensures (omega (arith, (accepted_is _ _ p.0).few_records)) (omega arith))
