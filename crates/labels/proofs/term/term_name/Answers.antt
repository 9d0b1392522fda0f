use mathlib.Core.Path.{refl}
use Rattle.text.specs.Utf8.{bytes, encode}
use Rattle.names.specs.Term.{terms}
use Rattle.labels.specs.TermName.{term_name, term_name_at}
use Rattle.labels.proofs.Texts.{text_found}
use Rattle.labels.proofs.term.term_name.Goals as goal

pub returns : goal.returns
unfolding term_name_at terms bytes encode
returns c = text_found term_name terms _ refl c.text_of.ensures
