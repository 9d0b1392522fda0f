use native.Mathlib.Omega.{arith}
use Rattle.tokens.proofs.Entities.{is_lt, is_gt, is_a, is_quot, is_none}
use Rattle.tokens.proofs.references.entity.Goals as goal

pub returns-in-108 : goal.returns-in-108
returns-in-108 c = is_lt _ _ _ c.next-x.ensures c.in-108.is _ c.word_at.ensures _ c.meaning.ensures

pub returns-in-103 : goal.returns-in-103
returns-in-103 c = is_gt _ _ _ c.next-x.ensures c.in-103.is _ c.word_at-in-103.ensures _ c.meaning-in-103.ensures

pub returns-in-97 : goal.returns-in-97
returns-in-97 c = is_a _ _ _ c.next-x.ensures c.in-97.is _ c.entity_a.ensures

pub returns-in-113 : goal.returns-in-113
returns-in-113 c = is_quot _ _ _ c.next-x.ensures c.in-113.is _ c.word_at-in-113.ensures _ c.meaning-in-113.ensures

pub returns-in_default : goal.returns-in_default
returns-in_default c = is_none _ _ _ c.next-x.ensures (λ e. omega arith) (λ e. omega arith) (λ e. omega arith) (λ e. omega arith)
