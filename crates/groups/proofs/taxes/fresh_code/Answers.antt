use Rattle.groups.specs.Taxes.{fresh_code_of}
use Rattle.values.proofs.Telling.{told_silent, told_said}
use Rattle.groups.proofs.Made.{code_read, unknown_said}
use Rattle.groups.proofs.taxes.fresh_code.Goals as goal

pub returns-then-is_none : goal.returns-then-is_none
unfolding fresh_code_of
returns-then-is_none c = rw (← c.shown.ensures, ← c.vat_point_date_code_from_cii-code.ensures, code_read _, unknown_said _ _, c.is_none.ensures, c.if-is_none.true) (told_said (rw c.site-site.ensures at c.say.ensures))

pub returns-else-is_none : goal.returns-else-is_none
unfolding fresh_code_of
returns-else-is_none c = rw (← c.shown.ensures, ← c.vat_point_date_code_from_cii-code.ensures, code_read _, unknown_said _ _, c.is_none.ensures, c.if-is_none.false) (told_silent _)
