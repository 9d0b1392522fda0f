use mathlib.Core.Path.{refl}
use Rattle.text.specs.Utf8.{bytes, encode}
use Rattle.edges.specs.Names.{leaves}
use Rattle.edges.proofs.Named.{meant_by}
use Rattle.edges.proofs.leaves.leaf_of.Goals as goal

pub returns : goal.returns
unfolding leaves bytes encode
returns c = meant_by c.args.name.now _ leaves c.meaning_of.ensures refl
