-- The numbers of the refusals (document 01, "Where each refusal is checked").
use Rattle.std.specs.Prelude.{ℕ}
use Rattle.refusals.specs.declared.reasons.Reason.{Reason}
use Rattle.refusals.specs.declared.reasons.Reason.TheVariants.{Mode, Rules, Ragged, Oversized, NotRoot, Misplaced, Outside, NotUtf8, NotSettlement, Cramped}

abbrev pub number : Reason → ℕ
number Mode = 1
number Rules = 2
number Ragged = 3
number Oversized = 4
number NotRoot = 5
number Misplaced = 6
number Outside = 7
number NotUtf8 = 8
number NotSettlement = 9
number Cramped = 10
