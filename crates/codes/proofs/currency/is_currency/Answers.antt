use mathlib.Core.Path.{◌∙◌, ap}
use Rattle.text.specs.Utf8.{bytes, encode}
use Rattle.codes.specs.Currency.{currency_codes, listed}
use Rattle.codes.proofs.Currencies.{codes, member_listed, three, listed_other}
use Rattle.codes.proofs.currency.is_currency.Goals as goal

pub returns-then-s-eq3 : goal.returns-then-s-eq3
unfolding codes currency_codes bytes encode listed
returns-then-s-eq3 c = c.is_ok.ensures.value ∙ (member_listed _ c.binary_search.result c.binary_search.ensures.bound c.binary_search.ensures.position ∙ ap listed (three c.args.s.now c.if-s-eq3.true))

pub returns : goal.returns
returns c = search listed_other
