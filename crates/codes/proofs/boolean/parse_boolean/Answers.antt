use mathlib.Core.Path.{refl}
use mathlib.Core.Bool.{Bool}
use Rattle.text.specs.Utf8.{bytes, encode}
use Rattle.codes.specs.Boolean.{boolean_answer, boolean_of, literals}
use Rattle.codes.proofs.Meanings.{means}
use Rattle.codes.proofs.boolean.parse_boolean.Goals as goal

pub returns : goal.returns
unfolding boolean_of literals bytes encode
returns c = means {A = Bool} 18 boolean_answer refl (λ b. refl) c.args.s.now _ literals c.meaning_of.ensures refl
