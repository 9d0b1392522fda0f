-- What a child did to the reading so far and to the lent lists, by its kind.
use Rattle.std.specs.Prelude.{◌≡◌, cond, List, ℕ}
use Rattle.report.specs.Rows.{Place}
use Rattle.report.specs.HeldRows.{Holds}
use Rattle.report.specs.declared.held.HeldRows.{HeldRows}
use Rattle.settlement.specs.Document.{Doc}
use Rattle.settlement.specs.Kinds.{Kind, logistics_charge, same_kind, home}
use Rattle.settlement.specs.Shapes.{Of, State, Act}
use Rattle.settlement.specs.Settlement.{own, seen}
use Rattle.settlement.specs.Values.{Lent}
use Rattle.values.specs.Told.{Said}
use Rattle.values.specs.declared.saying.Entries.{Entries}
use Rattle.unmapped.specs.Acted.{Notes}
use Rattle.unmapped.specs.declared.note.UnmappedRows.{UnmappedRows}
use Rattle.steps.specs.States.{state_of}
use Rattle.steps.specs.declared.state.State as Code

module _ (L : Lent) (D : Doc ℕ Place) where
  -- what a child of a kind does on a lane
  unfoldable pub act_by : Kind → (l : Kind) → State Place → ℕ → Act Place (Of Place l)
  act_by k l s c = own L D l (same_kind k logistics_charge) (s l) (seen k s) c

  -- the state after it
  unfoldable pub step_by : Kind → State Place → ℕ → State Place
  step_by k s c = λ l. cond (same_kind l (home k)) (act_by k l s c).next (s l)

-- child c, of kind k, made r of s, and put what it holds, says and does not map among the rows
pub record Stepped (k : Kind) (L : Lent) (D : Doc ℕ Place) (x : List ℕ) (c : ℕ) (s r : Code.State) (h h' : HeldRows) (e e' : Entries) (u u' : UnmappedRows) : Type 0 where
  pub state : state_of r ≡ step_by L D k (state_of s) c
  pub held : Holds (act_by L D k (home k) (state_of s) c).holds h h'
  pub said : Said (act_by L D k (home k) (state_of s) c).says e e'
  pub noted : Notes x (act_by L D k (home k) (state_of s) c).strays u u'
