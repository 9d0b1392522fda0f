use mathlib.Core.Path.{refl}
use native.Mathlib.Omega.{arith}
use Rattle.children.proofs.Counting.{counted_within}
use Rattle.children.proofs.Reaching.{reached_start, reached_fewer, reached_step, reached_end}
use Rattle.children.proofs.walk.read_children.Goals as goal

pub loop-c-init : goal.loop-c-init
loop-c-init c = (tt, tt, reached_start (rw c.into_iter-c-iterator.ensures.into_iter_gives c.kids-c-items.ensures) c.requires.1)

pub row_child-tally-requires : goal.row_child-tally-requires
row_child-tally-requires c = counted_within c.loop-c.invariant.2.counted (omega (arith, reached_fewer c.loop-c.invariant.2 c.in-Some.ensures.steps, c.requires.0))

pub loop-c-preserved-in-Plain : goal.loop-c-preserved-in-Plain
loop-c-preserved-in-Plain c = (tt, tt, reached_step c.loop-c.invariant.2 c.in-Some.ensures.steps c.in-Plain.is c.kind_of.ensures (c.plain_child-plain.ensures _ _ _ _ _ _ _) refl refl refl refl refl refl refl)

pub loop-c-preserved-in-Row : goal.loop-c-preserved-in-Row
loop-c-preserved-in-Row c = (tt, tt, reached_step c.loop-c.invariant.2 c.in-Some.ensures.steps c.in-Row.is c.kind_of.ensures (c.row_child-tally.ensures _ _ _ _) refl refl refl refl refl refl refl)

pub loop-c-preserved-in-Billing : goal.loop-c-preserved-in-Billing
loop-c-preserved-in-Billing c = (tt, tt, reached_step c.loop-c.invariant.2 c.in-Some.ensures.steps c.in-Billing.is c.kind_of.ensures (c.billing_child-billing.ensures _ _ _ _) refl refl refl refl refl refl refl)

pub loop-c-preserved-in-Summation : goal.loop-c-preserved-in-Summation
loop-c-preserved-in-Summation c = (tt, tt, reached_step c.loop-c.invariant.2 c.in-Some.ensures.steps c.in-Summation.is c.kind_of.ensures (c.summation.ensures _ _ _ _) refl refl refl refl refl refl refl)

pub loop-c-preserved : goal.loop-c-preserved
loop-c-preserved c = (tt, tt, reached_step c.loop-c.invariant.2 c.in-Some.ensures.steps c.in-Other.is c.kind_of.ensures (c.unmapped_child.ensures _ _ _ _ _ _ _) refl refl refl refl refl refl refl)

pub returns : goal.returns
returns c = reached_end c.loop-c.invariant.2 c.in-None.ensures.steps.0
