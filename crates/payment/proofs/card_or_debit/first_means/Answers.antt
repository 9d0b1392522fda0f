use Rattle.payment.proofs.Walking.{walked_as, first_unset, beside_card, beside_debit, beside_transfers}
use Rattle.payment.proofs.card_or_debit.first_means.Goals as goal

pub returns-in-Unset : goal.returns-in-Unset
returns-in-Unset c = λ x h u. walked_as (c.with_means.ensures x h _ u) (first_unset _ _ _ _ c.in-Unset.is)

pub returns-in-Card : goal.returns-in-Card
returns-in-Card c = λ x h u. walked_as (c.leave_out.ensures x h u) (beside_card _ _ _ _ c.in-Card.is)

pub returns-in-Debit : goal.returns-in-Debit
returns-in-Debit c = λ x h u. walked_as (c.leave_out-in-Debit.ensures x h u) (beside_debit _ _ _ _ c.in-Debit.is)

pub returns-in-Transfers : goal.returns-in-Transfers
returns-in-Transfers c = λ x h u. walked_as (c.leave_out-in-Transfers.ensures x h u) (beside_transfers _ _ _ _ c.in-Transfers.is)
