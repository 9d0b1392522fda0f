-- What noting an unmapped element makes of any list of numbers; `noted` (proofs/Notes.antt) says what that means for rows in order.
use Rattle.std.specs.Prelude.{◌≡◌, cond, List, [], ◌∷◌, ◌++◌, ℕ, ◌+◌, ◌*◌, ◌/◌, leb, ℤ, length}
use Rattle.std.proofs.Math.Seq.{slice}
use Rattle.names.specs.Put.{put}
use Rattle.report.specs.Rows.{Place, Unmapped}
use Rattle.report.specs.Encoding.{unmapped_width, unmapped_row}
use Rattle.unmapped.specs.Search.{sought}
use Rattle.std.specs.Prelude.{Option, None, Some}

-- a list of rows and how many there are
pub record Rows : Type 0 where
  pub list : List ℤ
  pub count : ℕ

-- a row put before row k of count, the later ones moved behind it
unfoldable pub inserted : List ℤ → ℕ → Unmapped Place → ℕ → Rows
inserted l count u k = record { list = put l (k * unmapped_width) (unmapped_row u ++ slice (k * unmapped_width) (count * unmapped_width) l); count = count + 1 }

-- by the spot that was found
abbrev pub at_spot : Option ℕ → List ℤ → ℕ → Unmapped Place → Rows
at_spot None l count u = record { list = l; count = count }
at_spot (Some k) l count u = inserted l count u k

-- an element noted; nothing changes where there is no room for one row more
unfoldable pub noting : List ℕ → List ℤ → ℕ → Unmapped Place → Rows
noting x l count u = cond (leb (length l / unmapped_width) count) (record { list = l; count = count }) (at_spot (sought x l count u) l count u)

-- elements noted one after the other
unfoldable pub notings : List ℕ → List ℤ → ℕ → List (Unmapped Place) → Rows
notings x l count [] = record { list = l; count = count }
notings x l count (u ∷ us) = notings x (noting x l count u).list (noting x l count u).count us

-- the list and the count are those
pub record Noted (rows : Rows) (now : List ℤ) (n : ℕ) : Type 0 where
  pub list : now ≡ rows.list
  pub count : n ≡ rows.count
