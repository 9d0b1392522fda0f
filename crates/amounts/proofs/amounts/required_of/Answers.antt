use Rattle.settlement.specs.Values as reading
use Rattle.values.proofs.Telling.{told_or_zero}
use Rattle.amounts.specs.Amounts.{amount_found, required_found}
use Rattle.amounts.proofs.Spelled.{amount_spelled}
use Rattle.amounts.proofs.amounts.required_of.Goals as goal

pub returns-in-None : goal.returns-in-None
unfolding required_found
returns-in-None c = rw (← c.text_in.ensures, c.in-None.is) c.absent.ensures

pub returns-in-Some : goal.returns-in-Some
unfolding required_found amount_found reading.amount_of
returns-in-Some c = rw (← c.text_in.ensures, c.in-Some.is, ← amount_spelled _ _ _ _ _ _ _ (rw c.in-Some.is at c.text_in.ensures), ← c.hear_text-heard.ensures _) (told_or_zero c.tell.ensures c.or_zero.ensures)
