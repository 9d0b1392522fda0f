use native.Mathlib.Omega.{arith}
use Rattle.text.proofs.Digits.{digit_range}
use Rattle.amount.proofs.decimal.push_digit.Goals as goal

pub overflow_sub-b : goal.overflow_sub-b
overflow_sub-b c = omega (arith, digit_range _ c.requires)

pub returns-then-m-le922337203685477580 : goal.returns-then-m-le922337203685477580
returns-then-m-le922337203685477580 c = omega (arith, digit_range _ c.requires)
