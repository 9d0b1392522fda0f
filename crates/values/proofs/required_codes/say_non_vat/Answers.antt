use Rattle.values.specs.Sites.{not_vat_in}
use Rattle.values.proofs.Telling.{said_none}
use Rattle.values.proofs.required_codes.say_non_vat.Goals as goal

pub returns-else-not-is_vat : goal.returns-else-not-is_vat
unfolding not_vat_in
returns-else-not-is_vat c = rw (c.in-Some.is, ← c.shown.ensures, ← c.is_vat.ensures, c.if-not-is_vat.false) (said_none _)

pub returns-in-None : goal.returns-in-None
unfolding not_vat_in
returns-in-None c = rw c.in-None.is (said_none _)

pub returns-then-not-is_vat : goal.returns-then-not-is_vat
unfolding not_vat_in
returns-then-not-is_vat c = rw (c.in-Some.is, ← c.shown.ensures, ← c.is_vat.ensures, c.if-not-is_vat.true) c.say.ensures
