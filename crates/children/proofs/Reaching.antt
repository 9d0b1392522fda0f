-- The loop over the children of a settlement.
use mathlib.Core.Path.{◌≡◌, sym, ap, ◌∙◌}
use mathlib.Core.Bool.{Bool, true, false, cond}
use mathlib.Core.List.{List, [], ◌∷◌, ◌++◌, append-nil, append_assoc}
use Prim.Native.Nat.{ℕ, zero, suc, ◌+◌, ◌/◌, ◌≤◌}
use native.Mathlib.Omega.{arith}
use lib.Dec.{eqb}
use lib.ListN.{length, length-append}
use Rattle.links.specs.Links.{link, chain, linked}
use Rattle.report.specs.declared.held.HeldRows.{HeldRows}
use Rattle.settlement.specs.Settlement.{kind_of}
use Rattle.settlement.specs.Values.{Lent}
use Rattle.element.specs.LinkDoc.{link_doc}
use Rattle.values.specs.declared.saying.Entries.{Entries}
use Rattle.unmapped.specs.declared.note.UnmappedRows.{UnmappedRows}
use Rattle.children.specs.Counts.{Counted}
use Rattle.kinds.specs.Kinds.{kind_is}
use Rattle.steps.specs.States.{state}
use Rattle.steps.specs.Steps.{Stepped}
use Rattle.children.specs.Walks.{Walked}
use Rattle.kinds.specs.declared.child.Kind as Kind
use Rattle.steps.specs.declared.state.State as Code
use Rattle.steps.specs.declared.state.Plain.{Plain}
use Rattle.steps.specs.declared.state.Tally.{Tally}
use Rattle.steps.specs.declared.state.Billing.{Billing}
use Rattle.children.proofs.Counting.{counted_more}
use Rattle.children.proofs.Walking.{walked_none, walked_more, walked_as}
use Rattle.std.specs.Prelude.{Option}
use Rattle.totals.specs.declared.state.Totals as CodeTotals

-- the links spell no more records than they have
chain_length : (l : List ℕ) (n c : ℕ) → length (chain l n c) ≤ n
unfolding chain
chain_length l zero c = omega arith
chain_length l (suc n) c = go (eqb c 0) (chain_length l n (link l c 2))
  where
    go : (b : Bool) → length (chain l n (link l c 2)) ≤ n → length (cond b [] (c ∷ chain l n (link l c 2))) ≤ suc n
    go true h = omega arith
    go false h = omega arith

-- with the children cs to go: those before them were read
pub record Reached (L : Lent) (t x l : List ℕ) (n : ℕ) (s₀ : Code.State) (h₀ : HeldRows) (e₀ : Entries) (u₀ : UnmappedRows) (cs : List ℕ) (s : Code.State) (h : HeldRows) (e : Entries) (u : UnmappedRows) : Type 0 where
  pub done : List ℕ
  pub rest : linked l 0 n ≡ done ++ cs
  pub walked : Walked L (link_doc t x l) x done s₀ s h₀ h e₀ e u₀ u
  pub counted : Counted s.tally (length done)

module _ {L : Lent} {t x l : List ℕ} {n : ℕ} {s₀ : Code.State} {h₀ : HeldRows} {e₀ : Entries} {u₀ : UnmappedRows} where
  pub reached_start : {cs : List ℕ} → cs ≡ linked l 0 n → Counted s₀.tally 0 → Reached L t x l n s₀ h₀ e₀ u₀ cs s₀ h₀ e₀ u₀
  reached_start q p = record { done = []; rest = sym q; walked = walked_none L (link_doc t x l) x s₀ h₀ e₀ u₀; counted = p }

  module _ {cs : List ℕ} {s : Code.State} {h : HeldRows} {e : Entries} {u : UnmappedRows} (k : Reached L t x l n s₀ h₀ e₀ u₀ cs s h e u) where
    -- fewer children than the links have records were read before one more
    pub reached_fewer : {c : ℕ} {ds : List ℕ} → cs ≡ c ∷ ds → length k.done + 1 ≤ length l / 3
    unfolding linked
    reached_fewer {c} {ds} q = omega (arith, chain_length l (length l / 3) (link l n 0), ap length (k.rest ∙ ap (λ (m : List ℕ). k.done ++ m) q), length-append k.done (c ∷ ds))

    pub reached_turn :
        {c : ℕ} {ds : List ℕ} {r : Code.State} {h' : HeldRows} {e' : Entries} {u' : UnmappedRows} → cs ≡ c ∷ ds → Stepped (kind_of (link_doc t x l) c) L (link_doc t x l) x c s r h h' e e' u u' →
        Reached L t x l n s₀ h₀ e₀ u₀ ds r h' e' u'
    reached_turn {c} {ds} {r} q m =
        let one : length (k.done ++ c ∷ []) ≡ length k.done + 1 = length-append k.done (c ∷ []) in
        record {
          done = k.done ++ c ∷ [];
          rest = k.rest ∙ rw (q, append_assoc k.done);
          walked = walked_more L (link_doc t x l) x k.walked m;
          counted = rw one (counted_more L (link_doc t x l) c (kind_of (link_doc t x l) c) s r m.state k.counted);
        }

    -- the same by parts, and by the kind that the code found
    pub reached_step :
        {c : ℕ} {ds : List ℕ} →
        cs ≡ c ∷ ds →
        {i j : Kind.Kind} →
        i ≡ j →
        kind_is i ≡ kind_of (link_doc t x l) c →
        {r : Code.State} {h' : HeldRows} {e' : Entries} {u' : UnmappedRows} →
        Stepped (kind_is j) L (link_doc t x l) x c s r h h' e e' u u' →
        {p : Plain} {y : Tally} {b : Billing} {m : Option CodeTotals.Totals} {h'' : HeldRows} {e'' : Entries} {u'' : UnmappedRows} →
        h'' ≡ h' →
        e'' ≡ e' →
        u'' ≡ u' →
        p ≡ r.plain →
        y ≡ r.tally →
        b ≡ r.billing →
        m ≡ r.totals →
        Reached L t x l n s₀ h₀ e₀ u₀ ds (state p y b m) h'' e'' u''
    reached_step q a k' made b₁ b₂ b₃ a₁ a₂ a₃ a₄ = rw (b₁, b₂, b₃, a₁, a₂, a₃, a₄) (reached_turn q (rw (← k', a) made))

    pub reached_end : cs ≡ [] → Walked L (link_doc t x l) x (linked l 0 n) s₀ s h₀ h e₀ e u₀ u
    reached_end q = walked_as L (link_doc t x l) x k.walked (sym (k.rest ∙ rw q (append-nil k.done)))
