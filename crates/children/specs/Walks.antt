-- What the children of a list did to the reading so far and to the lent lists, one after the other.
use Rattle.std.specs.Prelude.{◌≡◌, cond, ℕ, leb, length}
use mathlib.Core.List.{List, [], foldl}
use Rattle.report.specs.Rows.{Place}
use Rattle.report.specs.HeldRows.{Holds}
use Rattle.report.specs.declared.held.HeldRows.{HeldRows}
use Rattle.settlement.specs.Document.{Doc}
use Rattle.settlement.specs.Shapes.{blank}
use Rattle.settlement.specs.Settlement.{step, says_of, holds_of, strays_of, after}
use Rattle.settlement.specs.Values.{Lent}
use Rattle.settlement.specs.Walk.{said as all}
use Rattle.values.specs.Told.{Said}
use Rattle.values.specs.declared.saying.Entries.{Entries}
use Rattle.unmapped.specs.Acted.{Notes}
use Rattle.unmapped.specs.declared.note.UnmappedRows.{UnmappedRows}
use Rattle.steps.specs.States.{state_of}
use Rattle.steps.specs.declared.state.State as Code

-- all children of a list made r of s, one after the other, and put what they hold, say and do not map among the rows
pub record Walked (L : Lent) (D : Doc ℕ Place) (x cs : List ℕ) (s r : Code.State) (h h' : HeldRows) (e e' : Entries) (u u' : UnmappedRows) : Type 0 where
  pub state : state_of r ≡ foldl (step L D) (state_of s) cs
  pub held : Holds (all (step L D) (holds_of L D) (state_of s) cs) h h'
  pub said : Said (all (step L D) (says_of L D) (state_of s) cs) e e'
  pub noted : Notes x (all (step L D) (strays_of L D) (state_of s) cs) u u'

-- the children that are read: all, but none where there are more links than a table of 4,096 records has
abbrev pub countable : List ℕ → List ℕ → List ℕ
countable links cs = cond (leb (length links) 12288) cs []

-- all children of a list were read from nothing on
pub record Read (L : Lent) (D : Doc ℕ Place) (x cs : List ℕ) (r : Code.State) (h h' : HeldRows) (e e' : Entries) (u u' : UnmappedRows) : Type 0 where
  pub state : state_of r ≡ after L D cs
  pub held : Holds (all (step L D) (holds_of L D) (blank Place) cs) h h'
  pub said : Said (all (step L D) (says_of L D) (blank Place) cs) e e'
  pub noted : Notes x (all (step L D) (strays_of L D) (blank Place) cs) u u'
