use Rattle.std.proofs.Common.{tests, rules}
use Rattle.amount.proofs.Signs.{read64}
use mathlib.Core.Path.{◌∙◌}
use Rattle.amount.specs.Walk.{rated}
use borrow.Author.Tests.{lt-ltb, le-ltb}
use Rattle.amount.proofs.numeric.rated.Goals as goal

pub returns-then-d-gt18 : goal.returns-then-d-gt18
unfolding rated
returns-then-d-gt18 c = search (tests, rules)

pub returns-then-d-lt1000000000000000000 : goal.returns-then-d-lt1000000000000000000
unfolding rated
returns-then-d-lt1000000000000000000 c = search (read64 c.with_sign.result c.with_sign.type_inv ∙ c.with_sign.ensures, lt-ltb _ _ c.if-d-lt1000000000000000000.true, tests, rules)

pub returns : goal.returns
unfolding rated
returns c = search (le-ltb _ _ c.if-d-lt1000000000000000000.false, tests, rules)
