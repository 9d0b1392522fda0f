use mathlib.Core.Path.{refl}
use Rattle.text.specs.Utf8.{bytes, encode}
use Rattle.text.proofs.Places.{meant_by}
use Rattle.settlement.specs.Payments.{parts}
use Rattle.payment.specs.Parts.{part_is}
use Rattle.payment.specs.declared.parts.Part.TheVariants.{Unknown}
use Rattle.payment.proofs.parts.part_named.Goals as goal

pub returns : goal.returns
unfolding parts bytes encode
returns c = meant_by part_is Unknown c.args.name.now _ parts c.unwrap_or.ensures c.meaning_of.ensures refl
