-- Laws of the walk over the children of a settlement.
use mathlib.Core.Path.{◌≡◌, refl, sym, ap, ◌∙◌}
use mathlib.Core.List.{List, [], ◌∷◌, ◌++◌, foldl, append-nil, foldl-append}
use Prim.Native.Nat.{ℕ}
use native.Mathlib.Omega.{arith}
use Rattle.report.specs.Rows.{Place}
use Rattle.report.specs.HeldRows.{Holds}
use Rattle.report.specs.declared.held.HeldRows.{HeldRows}
use Rattle.report.proofs.Holding.{holds_none, holds_then}
use Rattle.settlement.specs.Document.{Doc}
use Rattle.settlement.specs.Kinds.{trade_tax, allowance_charge, preceding_invoice}
use Rattle.settlement.specs.Shapes.{State, blank}
use Rattle.settlement.specs.Settlement.{kind_of, act, step, says_of, holds_of, strays_of, after}
use Rattle.settlement.specs.Values.{Lent}
use Rattle.settlement.specs.Walk.{said as all}
use Rattle.settlement.proofs.Walks.{said_append}
use Rattle.values.specs.Told.{Said}
use Rattle.values.proofs.Telling.{said_none, said_then}
use Rattle.values.specs.declared.saying.Entries.{Entries}
use Rattle.unmapped.specs.Acted.{Notes}
use Rattle.unmapped.specs.declared.note.UnmappedRows.{UnmappedRows}
use Rattle.unmapped.proofs.Notings.{notes_none, notes_then}
use Rattle.children.specs.Counts.{Counted}
use Rattle.steps.specs.States.{state_of}
use Rattle.steps.specs.Steps.{act_by, step_by, Stepped}
use Rattle.children.specs.Walks.{Walked, Read}
use Rattle.steps.specs.declared.state.State as Code

-- what is said on the way, with one more
all_more : {S C O : Type 0} (f : S → C → S) (emit : S → C → List O) (s : S) (l : List C) (c : C) → all f emit s l ++ emit (foldl f s l) c ≡ all f emit s (l ++ c ∷ [])
unfolding all
all_more {S} {C} {O} f emit s l c = ap (λ (o : List O). all f emit s l ++ o) (sym (append-nil (emit (foldl f s l) c))) ∙ sym (said_append f emit s l (c ∷ []))

module _ (L : Lent) (D : Doc ℕ Place) (x : List ℕ) where
  -- no child yet
  pub walked_none : (s : Code.State) (h : HeldRows) (e : Entries) (u : UnmappedRows) → Walked L D x [] s s h h e e u u
  unfolding all
  walked_none s h e u = record { state = refl; held = holds_none h; said = said_none e; noted = notes_none x u }

  module _ {cs : List ℕ} {c : ℕ} {s w r : Code.State} {h h₁ h₂ : HeldRows} {e e₁ e₂ : Entries} {u u₁ u₂ : UnmappedRows} (p : Walked L D x cs s w h h₁ e e₁ u u₁) (q : Stepped (kind_of D c) L D x c w r h₁ h₂ e₁ e₂ u₁ u₂) where
    abbrev before : State Place
    before = foldl (step L D) (state_of s) cs

    stepped_state : state_of r ≡ step L D before c
    unfolding step act step_by act_by
    stepped_state = q.state ∙ ap (λ (v : State Place). step L D v c) p.state

    stepped_held : Holds (holds_of L D before c) h₁ h₂
    unfolding holds_of act act_by
    stepped_held = rw p.state at q.held

    stepped_said : Said (says_of L D before c) e₁ e₂
    unfolding says_of act act_by
    stepped_said = rw p.state at q.said

    stepped_noted : Notes x (strays_of L D before c) u₁ u₂
    unfolding strays_of act act_by
    stepped_noted = rw p.state at q.noted

    -- one child more
    pub walked_more : Walked L D x (cs ++ c ∷ []) s r h h₂ e e₂ u u₂
    walked_more =
        record {
          state = stepped_state ∙ sym (foldl-append (step L D) (state_of s) cs (c ∷ []));
          held = rw (all_more (step L D) (holds_of L D) (state_of s) cs c) at (holds_then p.held stepped_held);
          said = rw (all_more (step L D) (says_of L D) (state_of s) cs c) at (said_then p.said stepped_said);
          noted = rw (all_more (step L D) (strays_of L D) (state_of s) cs c) at (notes_then p.noted stepped_noted);
        }

  -- the children are those of another list that is the same
  pub walked_as : {cs cs' : List ℕ} {s r : Code.State} {h h' : HeldRows} {e e' : Entries} {u u' : UnmappedRows} → Walked L D x cs s r h h' e e' u u' → cs ≡ cs' → Walked L D x cs' s r h h' e e' u u'
  walked_as p q = rw q at p

  -- from nothing on
  pub walked_fresh : {cs : List ℕ} {s r : Code.State} {h h' : HeldRows} {e e' : Entries} {u u' : UnmappedRows} → state_of s ≡ blank Place → Walked L D x cs s r h h' e e' u u' → Read L D x cs r h h' e e' u u'
  unfolding after
  walked_fresh f p = record { state = rw f at p.state; held = rw f at p.held; said = rw f at p.said; noted = rw f at p.noted }

-- and nothing is counted yet
pub fresh_counted : (s : Code.State) → state_of s ≡ blank Place → Counted s.tally 0
fresh_counted s f =
    record {
      breakdowns = omega (arith, ap (λ (v : State Place). (v trade_tax).count) f);
      allowances = omega (arith, ap (λ (v : State Place). (v allowance_charge).allowances) f);
      charges = omega (arith, ap (λ (v : State Place). (v allowance_charge).charges) f);
      invoices = omega (arith, ap (λ (v : State Place). v preceding_invoice) f);
    }
