use mathlib.Core.Path.{refl}
use Rattle.text.specs.Utf8.{bytes, encode}
use Rattle.text.proofs.Places.{meant_by}
use Rattle.settlement.specs.Summation.{sums}
use Rattle.totals.specs.State.{sum_is}
use Rattle.totals.specs.declared.sum.Sum.TheVariants.{Unread}
use Rattle.totals.proofs.sum.sum_named.Goals as goal

pub returns : goal.returns
unfolding sums bytes encode
returns c = meant_by sum_is Unread c.args.name.now _ sums c.unwrap_or.ensures c.meaning_of.ensures refl
