use mathlib.Core.Path.{refl}
use Rattle.text.specs.Utf8.{bytes, encode}
use Rattle.names.specs.Path.{paths}
use Rattle.labels.specs.PathText.{path_text, path_text_at}
use Rattle.labels.proofs.Texts.{text_found}
use Rattle.labels.proofs.path.path_text.Goals as goal

pub returns : goal.returns
unfolding path_text_at paths bytes encode
returns c = text_found path_text paths _ refl c.text_of.ensures
