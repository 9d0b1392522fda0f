use mathlib.Core.Path.{◌≡◌}
use Prim.Native.Nat.{◌≤◌}
use lib.ListN.{drop}
use Rattle.text.specs.Digits.{numeral_from}
use Rattle.text.proofs.digit.written.Given as goal

abbrev pub invariant-loop-b : goal.invariant-loop-b
invariant-loop-b l = (l.n ≤ 4294967295) × (numeral_from 0 l.s ≡ numeral_from l.n (drop l.b-index l.s))
