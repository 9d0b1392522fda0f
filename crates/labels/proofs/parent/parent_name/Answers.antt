use mathlib.Core.Path.{refl}
use Rattle.text.specs.Utf8.{bytes, encode}
use Rattle.names.specs.Parent.{parents}
use Rattle.labels.specs.ParentName.{parent_name, parent_name_at}
use Rattle.labels.proofs.Texts.{text_found}
use Rattle.labels.proofs.parent.parent_name.Goals as goal

pub returns : goal.returns
unfolding parent_name_at parents bytes encode
returns c = text_found parent_name parents _ refl c.text_of.ensures
