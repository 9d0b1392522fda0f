use mathlib.Core.Path.{refl}
use Rattle.text.specs.Utf8.{bytes, encode}
use Rattle.text.proofs.Places.{meant_by}
use Rattle.settlement.specs.Kinds.{kinds, kind_named}
use Rattle.kinds.specs.Kinds.{kind_is}
use Rattle.kinds.specs.declared.child.Kind.TheVariants.{Other}
use Rattle.kinds.proofs.child.kind_named.Goals as goal

pub returns : goal.returns
unfolding kinds kind_named bytes encode
returns c = meant_by kind_is Other c.args.name.now _ kinds c.unwrap_or.ensures c.meaning_of.ensures refl
