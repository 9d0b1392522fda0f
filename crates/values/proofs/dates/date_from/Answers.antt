use Rattle.text.specs.Utf8.{bytes, encode}
use Rattle.values.proofs.Telling.{told_said}
use Rattle.values.specs.Sites.{date_at}
use Rattle.values.proofs.dates.date_from.Goals as goal

pub returns-then-is_right_format : goal.returns-then-is_right_format
unfolding date_at bytes encode
returns-then-is_right_format c = rw (← c.attribute_text-format.ensures, ← c.is_right_format.ensures, c.if-is_right_format.true) (rw c.site-site.ensures at c.parsed.ensures)

pub returns : goal.returns
unfolding date_at bytes encode
returns c = rw (← c.attribute_text-format.ensures, ← c.is_right_format.ensures, c.if-is_right_format.false) (told_said (rw c.site-site.ensures at c.say.ensures))
