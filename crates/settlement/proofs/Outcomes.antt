-- A call whose outcome is a reading was refused by none of the ten.
use mathlib.Core.Path.{◌≡◌, refl}
use mathlib.Core.Bool.{false, true≢false}
use mathlib.Core.List.{List}
use mathlib.Core.Option.{Option, none, some}
use Prim.Native.Nat.{ℕ}
use Rattle.refusals.specs.Refusals.{refuse, at_root, refusal}
use Rattle.refusals.proofs.Accepting.{passed_on, at_none}
use Rattle.report.specs.Rows.{Place}
use Rattle.settlement.specs.Document.{or_else}
use Rattle.settlement.specs.Shapes.{Reading}
use Rattle.settlement.specs.Values.{Lent}
use Rattle.settlement.specs.Settlement.{reading}
use Rattle.settlement.specs.TableDoc.{table_doc}
use Rattle.settlement.specs.Outcome.{Room, read, unknown_mode, unknown_rules, cramped, call_refusal, unless, outcome}

-- neither of two is there
neither_some : (o p : Option (ℕ × ℕ)) → or_else o p ≡ none → (o ≡ none) × (p ≡ none)
neither_some none p e = (refl, e)
neither_some (some n) p e = absurd (true≢false cc)

module _ (L : Lent) (m : Room) (t x : List ℕ) (r : Reading Place) (e : outcome L m t x ≡ read r) where
  -- none of the ten
  none_refused : call_refusal L m t x ≡ none
  unfolding outcome
  none_refused = go (call_refusal L m t x) e
    where
      go : (o : Option (ℕ × ℕ)) → unless o (reading L (table_doc t x) 0) ≡ read r → o ≡ none
      go none h = refl
      go (some n) h = absurd (true≢false cc)

  -- so none of the table's, and not the last
  last_refusals : (refusal t x ≡ none) × (refuse 10 (at_root (cramped m t)) none ≡ none)
  unfolding call_refusal
  last_refusals =
      let later = or_else (refusal t x) (refuse 10 (at_root (cramped m t)) none) in
      let e₁ = passed_on 1 (at_root (unknown_mode L)) (refuse 2 (at_root (unknown_rules L)) later) none_refused in
      let e₂ = passed_on 2 (at_root (unknown_rules L)) later e₁.1 in
      neither_some (refusal t x) _ e₂.1

  -- its table is accepted
  pub accepted : refusal t x ≡ none
  accepted = last_refusals.0

  -- and the lent lists have the room that refusal 10 asks for
  pub has_room : cramped m t ≡ false
  has_room = at_none (cramped m t) (passed_on 10 (at_root (cramped m t)) none last_refusals.1).0
