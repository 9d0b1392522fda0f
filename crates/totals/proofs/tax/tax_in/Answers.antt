use mathlib.Core.Path.{refl}
use Rattle.settlement.specs.Summation.{tax_in, with_vat}
use Rattle.values.proofs.Telling.{said_then}
use Rattle.totals.proofs.tax.tax_in.Goals as goal

pub returns : goal.returns
unfolding tax_in with_vat
returns c = λ es e s. rw (← c.is_currency-is_vat.ensures, ← c.is_currency.ensures, c.if-is_currency.false, c.if-is_vat.false) (record { same = refl; said = said_then s (rw (← c.site-site.ensures) c.say.ensures) })
