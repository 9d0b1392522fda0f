use mir.Syntax.{w64}
use mir.Facts.{to_z_pos}
use Rattle.amount.specs.Decimal.{signed}
use Rattle.amount.proofs.signed.to_i64.Goals as goal

pub returns : goal.returns
unfolding signed
returns c = to_z_pos w64 c.requires
