use mathlib.Core.Path.{refl}
use Rattle.text.specs.Utf8.{bytes, encode}
use Rattle.edges.specs.Answers.{rules, rule_of}
use Rattle.edges.proofs.Named.{meant_by}
use Rattle.edges.proofs.answers.rule_of.Goals as goal

pub returns : goal.returns
unfolding rule_of rules bytes encode
returns c = meant_by c.args.s.now _ rules c.meaning_of.ensures refl
