use native.Mathlib.Omega.{arith}
use Rattle.tokens.proofs.Entities.{is_amp, is_apos, is_none_a}
use Rattle.tokens.proofs.references.entity_a.Goals as goal

pub returns-in-109 : goal.returns-in-109
returns-in-109 c = is_amp _ _ _ c.next-x.ensures c.in-109.is _ c.word_at.ensures _ c.meaning.ensures

pub returns-in-112 : goal.returns-in-112
returns-in-112 c = is_apos _ _ _ c.next-x.ensures c.in-112.is _ c.word_at-in-112.ensures _ c.meaning-in-112.ensures

pub returns-in_default : goal.returns-in_default
returns-in_default c = is_none_a _ _ _ c.next-x.ensures (λ e. omega arith) (λ e. omega arith)
