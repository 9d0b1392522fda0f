use Rattle.amounts.proofs.Spelled.{tax_spelled}
use Rattle.amounts.proofs.amounts.tax_amount.Goals as goal

pub returns : goal.returns
returns c = rw (← tax_spelled _ _ _ _ _ c.own_text-own.ensures, ← c.parsed_or-heard.ensures _) (rw c.site-site.ensures at c.tell.ensures)
