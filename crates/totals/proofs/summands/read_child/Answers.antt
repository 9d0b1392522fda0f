use Rattle.totals.proofs.Steps.{acted_start, required_step, optional_step, tax_step, unread_step}
use Rattle.totals.proofs.summands.read_child.Goals as goal

pub returns-in-Required : goal.returns-in-Required
returns-in-Required c = λ L h q f. required_step _ _ _ _ _ _ (acted_start _ _ h _ _) c.in-Required.is c.sum_of.ensures

pub returns-in-Optional : goal.returns-in-Optional
returns-in-Optional c = λ L h q f. optional_step _ _ _ _ _ _ (acted_start _ _ h _ _) _ c.in-Optional.is c.sum_of.ensures f c.say_again.ensures

pub returns-in-TaxTotal : goal.returns-in-TaxTotal
returns-in-TaxTotal c = λ L h q f. tax_step _ _ _ _ _ _ (acted_start _ _ h _ _) c.in-TaxTotal.is c.sum_of.ensures (c.tax_total.ensures L q)

pub returns-in-Unread : goal.returns-in-Unread
returns-in-Unread c = λ L h q f. unread_step _ _ _ _ _ _ (acted_start _ _ h _ _) c.in-Unread.is c.sum_of.ensures (rw (← c.name.ensures, ← c.text.ensures) c.note.ensures)
