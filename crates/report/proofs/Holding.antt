-- Laws of rows that are held one after another.
use mathlib.Core.Path.{◌≡◌, refl, ◌∙◌}
use mathlib.Core.List.{List, [], ◌∷◌, ◌++◌}
use Rattle.report.specs.Rows.{Place, Held}
use Rattle.report.specs.Encoding.{held_row}
use Rattle.report.specs.Placed.{Placed}
use Rattle.report.specs.HeldRows.{Holds}
use Rattle.report.specs.declared.held.HeldRows.{HeldRows}
use Rattle.report.proofs.RowsOf.{rows_none, rows_one, rows-then}

-- one row
pub holds_one : {h : Held Place} {a b : HeldRows} → b.list.ghost_name ≡ a.list.ghost_name → Placed a.list.now a.at (held_row h) b.list.now b.at → Holds (h ∷ []) a b
holds_one {h} same p = record { same = same; rows = rows_one held_row h p }

-- none
pub holds_none : (a : HeldRows) → Holds [] a a
holds_none a = record { same = refl; rows = rows_none held_row a.list.now a.at }

-- one after the other
pub holds_then : {hs is : List (Held Place)} {a b c : HeldRows} → Holds hs a b → Holds is b c → Holds (hs ++ is) a c
holds_then {hs} {is} p q = record { same = q.same ∙ p.same; rows = rows-then held_row hs is p.rows q.rows }
