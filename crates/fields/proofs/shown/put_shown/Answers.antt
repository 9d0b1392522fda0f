use mathlib.Core.Path.{refl, ap}
use mathlib.Core.Option.{some}
use Rattle.decimals.specs.Decimal.{signed}
use Rattle.fields.specs.Line.{field}
use Rattle.fields.specs.Columns.{column_of, text_shown, amount_shown, percent_shown, date_shown, shown}
use Rattle.fields.proofs.Showing.{column_shown}
use Rattle.fields.proofs.shown.put_shown.Goals as goal

pub returns-in-Text : goal.returns-in-Text
unfolding shown
returns-in-Text c =
    column_shown _ _ (text_shown _) (ap column_of c.in-Text.is) refl c.number_at-a.type_inv c.number_at-a.ensures c.number_at-b.type_inv c.number_at-b.ensures c.put_text.ensures

pub returns-in-Amount : goal.returns-in-Amount
unfolding shown
returns-in-Amount c =
    column_shown _ _ amount_shown (ap column_of c.in-Amount.is) refl c.number_at-a.type_inv c.number_at-a.ensures c.number_at-b.type_inv c.number_at-b.ensures c.put_amount.ensures

pub returns-in-Percent : goal.returns-in-Percent
unfolding shown
returns-in-Percent c =
    column_shown _ _ percent_shown (ap column_of c.in-Percent.is) refl c.number_at-a.type_inv c.number_at-a.ensures c.number_at-b.type_inv c.number_at-b.ensures c.put_percent.ensures

pub returns-in-Date : goal.returns-in-Date
unfolding shown
returns-in-Date c =
    column_shown _ _ (λ a b. date_shown a) (ap column_of c.in-Date.is) refl c.number_at-a.type_inv c.number_at-a.ensures c.number_at-b.type_inv c.number_at-b.ensures c.put_date.ensures

pub returns-in-Plain : goal.returns-in-Plain
unfolding shown field
returns-in-Plain c =
    column_shown _ _ (λ a b. some (signed a)) (ap column_of c.in-Plain.is) refl c.number_at-a.type_inv c.number_at-a.ensures c.number_at-b.type_inv c.number_at-b.ensures c.put_signed.ensures
