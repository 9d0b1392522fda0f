use Rattle.amounts.proofs.Currency.{no_currency, same_currency, other_currency, not_listed}
use Rattle.amounts.proofs.currencies.in_document_currency.Goals as goal

pub returns-then-currency-eq0 : goal.returns-then-currency-eq0
returns-then-currency-eq0 c = search no_currency

pub returns-then-same : goal.returns-then-same
returns-then-same c = search same_currency

pub returns-then-is_currency : goal.returns-then-is_currency
returns-then-is_currency c = search other_currency

pub returns : goal.returns
returns c = search not_listed
