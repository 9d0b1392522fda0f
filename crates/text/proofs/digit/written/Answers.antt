use mathlib.Core.Path.{sym, ◌∙◌}
use native.Mathlib.Omega.{arith}
use Rattle.text.proofs.Digits.{digit_other, digit_on, digit_over, digit_end, digit_range}
use Rattle.text.proofs.digit.written.Goals as goal

pub returns-then-not-is_digit : goal.returns-then-not-is_digit
returns-then-not-is_digit c = search digit_other

pub overflow_sub-n : goal.overflow_sub-n
overflow_sub-n c = omega (arith, digit_range _ (sym c.is_digit.ensures ∙ c.if-not-is_digit.false))

pub returns-then-n-gt4294967295 : goal.returns-then-n-gt4294967295
returns-then-n-gt4294967295 c = search digit_over

pub loop-b-preserved : goal.loop-b-preserved
loop-b-preserved c = (omega arith, search digit_on)

pub returns : goal.returns
returns c = search digit_end
