use Rattle.std.proofs.Common.{◌≡◌, take, map, w32}
use Rattle.std.specs.Int.{from_le_bytes}
use Rattle.names.specs.Put.{put}
use Rattle.inputs.proofs.files.numbers_of.Given as goal

abbrev pub invariant-loop-k : goal.invariant-loop-k
invariant-loop-k l = l.table ≡ put l.initial.table 0 (take l.k (map (from_le_bytes w32) l.numbers))
