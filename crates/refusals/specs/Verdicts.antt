-- What makes a record unsound, and what the answers of the checks say.
use Rattle.std.specs.Prelude.{Bool, ◌&&◌, ◌||◌, not, List, ℕ, ◌+◌, eqb, Result, Ok, Err, ⊤}
use Rattle.std.proofs.Math.Option.{Option, none, some}
use Rattle.characters.specs.Characters.{boundary}
use Rattle.table.specs.Table.{cell}
use Rattle.refusals.specs.Refusals.{misplaced, beyond}
use Rattle.refusals.specs.Reasons.{number}
use Rattle.refusals.specs.declared.reasons.Refusal.{Refusal}

-- len bytes from start on are inside the text, with boundaries of characters at both ends
unfoldable pub whole : List ℕ → ℕ → ℕ → Bool
whole x start len = not (beyond x start len) && (boundary x start && boundary x (start + len))

-- a record is misplaced, if it is not record 0, or its name or text not whole
unfoldable pub unsound : List ℕ → List ℕ → ℕ → Bool
unsound t x j = not (whole x (cell t j 2) (cell t j 3) && whole x (cell t j 4) (cell t j 5)) || (not (eqb j 0) && misplaced t j)

-- refusal number and record, none where the table is accepted
abbrev pub verdict : Result ⊤ Refusal → Option (ℕ × ℕ)
verdict (Ok u) = none
verdict (Err r) = some (number r.reason, r.record)
