use mathlib.Core.Option.{some}
use mathlib.Core.Path.{refl, ◌∙◌, ap}
use native.Mathlib.Omega.{arith}
use Rattle.element.proofs.Documents.{kept_fits, trimmed_none, trimmed_some}
use Rattle.element.proofs.texts.trimmed_at.Goals as goal

pub returns-then-kept : goal.returns-then-kept
returns-then-kept c = trimmed_none _ _ _ _ refl refl c.clip.ensures c.trim-kept.ensures c.if-kept.true

pub overflow_cast-kept : goal.overflow_cast-kept
overflow_cast-kept c = omega (arith, (kept_fits _ _ _ _ refl refl c.clip.ensures c.trim-kept.ensures).1)

pub overflow_cast-kept-2 : goal.overflow_cast-kept-2
overflow_cast-kept-2 c = omega (arith, (kept_fits _ _ _ _ refl refl c.clip.ensures c.trim-kept.ensures).1)

pub returns : goal.returns
returns c = ap some c.new.ensures ∙ trimmed_some _ _ _ _ refl refl c.clip.ensures c.trim-kept.ensures c.if-kept.false
