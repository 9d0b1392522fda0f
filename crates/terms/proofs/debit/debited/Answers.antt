use mathlib.Core.Path.{refl}
use Rattle.settlement.specs.Settlement.{debited}
use Rattle.values.proofs.Telling.{said_none}
use Rattle.terms.proofs.debit.debited.Goals as goal

pub returns-in-Unset : goal.returns-in-Unset
unfolding debited
returns-in-Unset c = rw c.in-Unset.is (record { means = c.debit_of.ensures; mandate = refl; creditor = refl; said = said_none _ })

pub returns-in-Debit : goal.returns-in-Debit
unfolding debited
returns-in-Debit c = rw c.in-Debit.is (record { means = refl; mandate = refl; creditor = refl; said = said_none _ })

pub returns-in-Card : goal.returns-in-Card
unfolding debited
returns-in-Card c = rw c.in-Card.is c.besides.ensures

pub returns-in-Transfers : goal.returns-in-Transfers
unfolding debited
returns-in-Transfers c = rw c.in-Transfers.is c.besides-in-Transfers.ensures
