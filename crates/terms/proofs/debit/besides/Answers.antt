use mathlib.Core.Path.{refl}
use Rattle.settlement.specs.Settlement.{besides}
use Rattle.values.proofs.Telling.{said_then}
use Rattle.terms.proofs.debit.besides.Goals as goal

pub returns : goal.returns
unfolding besides
returns c = record { means = refl; mandate = refl; creditor = refl; said = said_then c.say_lost.ensures c.say_lost-2.ensures }
