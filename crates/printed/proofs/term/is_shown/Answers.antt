use mathlib.Core.Path.{refl, ap}
use mathlib.Core.Bool.{true, not, ◌&&◌}
use lib.Dec.{eqb}
use Rattle.fields.specs.Columns.{column_of}
use Rattle.printed.specs.Numbers.{there, is_natural, is_shown}
use Rattle.printed.proofs.Putting.{column_is, both_true, first_false}
use Rattle.printed.proofs.term.is_shown.Goals as goal

pub returns-then-is_natural : goal.returns-then-is_natural
unfolding is_shown
returns-then-is_natural c =
    column_is _ (λ a b. is_natural a && is_natural b) (ap column_of c.in-Text.is) refl c.number_at-a.type_inv c.number_at-a.ensures c.number_at-b.type_inv c.number_at-b.ensures (both_true c.is_natural.ensures c.if-is_natural.true c.is_natural-then-is_natural.ensures)

pub returns-else-is_natural : goal.returns-else-is_natural
unfolding is_shown
returns-else-is_natural c =
    column_is _ (λ a b. is_natural a && is_natural b) (ap column_of c.in-Text.is) refl c.number_at-a.type_inv c.number_at-a.ensures c.number_at-b.type_inv c.number_at-b.ensures (first_false _ c.is_natural.ensures c.if-is_natural.false)

pub returns-in-Amount : goal.returns-in-Amount
unfolding is_shown
returns-in-Amount c =
    column_is _ (λ a b. there a) (ap column_of c.in-Amount.is) refl c.number_at-a.type_inv c.number_at-a.ensures c.number_at-b.type_inv c.number_at-b.ensures (ap (λ k. not (eqb k 0)) c.natural.ensures)

pub returns-in-Percent : goal.returns-in-Percent
unfolding is_shown
returns-in-Percent c =
    column_is _ (λ a b. is_natural b) (ap column_of c.in-Percent.is) refl c.number_at-a.type_inv c.number_at-a.ensures c.number_at-b.type_inv c.number_at-b.ensures c.is_natural-in-Percent.ensures

pub returns-in-Date : goal.returns-in-Date
unfolding is_shown
returns-in-Date c =
    column_is _ (λ a b. is_natural a) (ap column_of c.in-Date.is) refl c.number_at-a.type_inv c.number_at-a.ensures c.number_at-b.type_inv c.number_at-b.ensures c.is_natural-in-Date.ensures

pub returns-in-Plain : goal.returns-in-Plain
unfolding is_shown
returns-in-Plain c =
    column_is _ (λ a b. true) (ap column_of c.in-Plain.is) refl c.number_at-a.type_inv c.number_at-a.ensures c.number_at-b.type_inv c.number_at-b.ensures refl
