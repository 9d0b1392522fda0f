use Rattle.names.proofs.Puts.{put_fitting}
use Rattle.names.proofs.list.put.Goals as goal

pub returns : goal.returns
returns g c = search put_fitting
