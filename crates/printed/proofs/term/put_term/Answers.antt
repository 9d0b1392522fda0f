use Rattle.text.specs.Utf8.{bytes, encode}
use Rattle.printed.proofs.Putting.{term_absent, term_line_put}
use Rattle.printed.proofs.term.put_term.Goals as goal

pub returns-then-not-is_shown : goal.returns-then-not-is_shown
returns-then-not-is_shown c = search term_absent

pub returns : goal.returns
unfolding bytes encode
returns c = search term_line_put
