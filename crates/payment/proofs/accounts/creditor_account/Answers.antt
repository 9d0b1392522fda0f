use mathlib.Core.Path.{refl}
use Rattle.payment.proofs.Transfers.{joins_unset, joins_transfers, lost_card, lost_debit}
use Rattle.payment.proofs.Walking.{walked_as}
use Rattle.payment.proofs.accounts.creditor_account.Goals as goal

pub returns-in-Unset : goal.returns-in-Unset
returns-in-Unset c = λ u. walked_as (c.hold_account.ensures _ _ u) (joins_unset _ _ _ refl c.in-Unset.is)

pub returns-in-Transfers : goal.returns-in-Transfers
returns-in-Transfers c = λ u. walked_as (c.hold_account-in-Transfers.ensures _ _ u) (joins_transfers _ _ _ refl c.in-Transfers.is)

pub returns-in-Card : goal.returns-in-Card
returns-in-Card c = λ u. walked_as (c.lose_account.ensures _ u) (lost_card _ _ _ refl c.in-Card.is)

pub returns-in-Debit : goal.returns-in-Debit
returns-in-Debit c = λ u. walked_as (c.lose_account-in-Debit.ensures _ u) (lost_debit _ _ _ refl c.in-Debit.is)
