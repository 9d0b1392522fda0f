use mathlib.Core.Path.{refl}
use native.Mathlib.Omega.{arith}
use Rattle.characters.proofs.Characters.{good_start, good_stop, good_on, good_fits}
use Rattle.characters.proofs.Trims.{keep_on, keep_end, not_trimmed}
use Rattle.characters.proofs.trimming.trim_each.Goals as goal

pub loop-i-init : goal.loop-i-init
loop-i-init c = (omega arith, good_start _, refl)

pub overflow_add-end : goal.overflow_add-end
overflow_add-end c = omega (arith, good_fits _ _ c.loop-i-test.true _ c.char_at.ensures _ _ c.in-Some.is)

pub loop-i-smaller : goal.loop-i-smaller
loop-i-smaller c = omega (arith, good_fits _ _ c.loop-i-test.true _ c.char_at.ensures _ _ c.in-Some.is)

pub loop-i-preserved : goal.loop-i-preserved
loop-i-preserved c = (omega (arith, good_fits _ _ c.loop-i-test.true _ c.char_at.ensures _ _ c.in-Some.is), search good_on, search keep_on)

pub returns-in_default : goal.returns-in_default
returns-in_default c = search (not_trimmed, good_stop)

pub returns : goal.returns
returns c = search keep_end
