-- Laws of the answer's row: its parts put one after another, and what a call did.
use mathlib.Core.Path.{◌≡◌, refl, ap, ◌∙◌}
use mathlib.Core.List.{List, ◌∷◌, ◌++◌, append-nil, append_assoc}
use mathlib.Core.Option.{Option, none, some}
use Prim.Native.Nat.{ℕ, ◌+◌}
use native.Mathlib.Omega.{arith}
use lib.IntN.{ℤ}
use lib.ListN.{length, length-append, drop_of_length-le}
use Rattle.names.specs.Put.{put}
use Rattle.names.proofs.Puts.{put_eq}
use Rattle.report.specs.Rows.{Place}
use Rattle.report.specs.Encoding.{text_cells}
use Rattle.report.specs.Placed.{Placed}
use Rattle.report.specs.Values.{text_of}
use Rattle.report.proofs.Cells.{as_row}
use Rattle.report.proofs.Placing.{placed_then}
use Rattle.settlement.specs.Shapes.{Identifier, Payee, Means, unset, card, debit, transfers, Period, Terms}
use Rattle.settlement.specs.Values.{Lent}
use Rattle.settlement.specs.Outcome.{Room, Outcome, outcome}
use Rattle.settlement.specs.Result.{flag, identifier_cells, payee_cells, period_cells, means_cells, totals_cells, terms_row, answer_row}
use Rattle.payment.specs.Walks.{means_of}
use Rattle.totals.specs.Reading.{totals_of}
use Rattle.steps.specs.States.{maybe_payee_of, maybe_period_of}
use Rattle.terms.specs.Terms.{terms_of}
use Rattle.reader.specs.Answered.{Answered}
use Rattle.reader.specs.Answers.{Answer}
use Rattle.terms.specs.declared.terms.Terms as CodeTerms
use Rattle.rulzhamm.specs.Called.{Called}
use Rattle.rulzhamm.specs.Parts.{plain_cells, payment_cells, count_cells, answer_cells, Small}
use Rattle.settlement.proofs.Sizes.{place_small, counts_small}

-- lists one after the other, the later ones put together first
pub regroup : (p a b c d e m x y t : List ℤ) → p ++ (a ++ (b ++ ((c ++ d ++ e) ++ (m ++ (x ++ (y ++ t)))))) ≡ p ++ a ++ b ++ c ++ d ++ e ++ m ++ x ++ y ++ t
regroup p a b c d e m x y t = simp append_assoc

-- the parts of the terms, one after the other
pub terms_placed :
    (t : CodeTerms.Terms) {l l₁ l₂ l₃ l₄ l₅ l₆ l₇ l₈ : List ℤ} {at a₁ a₂ a₃ a₄ a₅ a₆ a₇ a₈ : ℕ} →
    Placed l at (plain_cells t) l₁ a₁ →
    Placed l₁ a₁ (payee_cells (maybe_payee_of t.payee)) l₂ a₂ →
    Placed l₂ a₂ (period_cells (maybe_period_of t.period)) l₃ a₃ →
    Placed l₃ a₃ (payment_cells t) l₄ a₄ →
    Placed l₄ a₄ (means_cells (means_of t.means)) l₅ a₅ →
    Placed l₅ a₅ (text_cells (text_of t.bt89)) l₆ a₆ →
    Placed l₆ a₆ (text_cells (text_of t.bt90)) l₇ a₇ →
    Placed l₇ a₇ (totals_cells (totals_of t.totals)) l₈ a₈ → Placed l at (terms_row (terms_of t)) l₈ a₈
unfolding terms_row
terms_placed t {l} {at = at} p₁ p₂ p₃ p₄ p₅ p₆ p₇ p₈ =
    as_row l at
    (regroup (plain_cells t) (payee_cells (maybe_payee_of t.payee)) (period_cells (maybe_period_of t.period)) (flag t.paid ∷ text_cells (text_of t.bt81)) (text_cells (text_of t.bt82)) (text_cells (text_of t.bt83)) (means_cells (means_of t.means)) (text_cells (text_of t.bt89)) (text_cells (text_of t.bt90)) (totals_cells (totals_of t.totals)))
    (placed_then p₁ (placed_then p₂ (placed_then p₃ (placed_then p₄ (placed_then p₅ (placed_then p₆ (placed_then p₇ p₈)))))))

-- widths of the parts that go by cases
identifier_width : (i : Option (Identifier Place)) → length (identifier_cells i) ≡ 4
identifier_width none = refl
identifier_width (some i) = refl

payee_width : (p : Option (Payee Place)) → length (payee_cells p) ≡ 11
payee_width none = refl
payee_width (some p) = simp (length-append, identifier_width)

period_width : (p : Option Period) → length (period_cells p) ≡ 3
period_width none = refl
period_width (some p) = refl

means_width : (m : Means Place) → length (means_cells m) ≡ 8
means_width unset = refl
means_width (card a b) = refl
means_width (debit a) = refl
means_width transfers = refl

-- the terms are 60 numbers
terms_width : (t : Terms Place) → length (terms_row t) ≡ 60
unfolding terms_row
terms_width t = simp (length-append, payee_width, period_width, means_width)

-- a row that fills a list
filled : (l vs : List ℤ) {m : List ℤ} → length vs ≡ length l → m ≡ put l 0 vs → m ≡ vs
filled l vs e p = p ∙ put_eq l 0 vs (omega (arith, e)) ∙ ap (λ (r : List ℤ). vs ++ r) (drop_of_length-le l {i = 0 + length vs} (omega (arith, e))) ∙ append-nil vs

-- counts, then terms
pub answer_placed : (a : Answer) {l l₁ l₂ : List ℤ} {a₁ a₂ : ℕ} → length l ≡ 65 → Placed l 0 (count_cells a) l₁ a₁ → Placed l₁ a₁ (terms_row a.terms) l₂ a₂ → l₂ ≡ answer_cells a
answer_placed a {l} e p q = filled l (answer_cells a) (omega (arith, terms_width a.terms, e)) (placed_then p q).now

-- what `read` answered, put as a row
pub called : {o : Outcome} {a : Answer} {n h h' e e' u u' : List ℤ} → Answered o a h h' e e' u u' → n ≡ answer_cells a → Called o n h h' e e' u u'
unfolding answer_row
called {o} {a} r p =
    record {
      answer = p ∙ rw (r.refusal, r.place, r.held_count, r.entry_count, r.unmapped_count, r.terms);
      held_rows = r.held_rows;
      entry_rows = r.entry_rows;
      unmapped_rows = r.unmapped_rows;
    }

-- its record and counts are small
pub small : (L : Lent) (m : Room) (t x : List ℕ) {a : Answer} {h h' e e' u u' : List ℤ} → Answered (outcome L m t x) a h h' e e' u u' → Small a
small L m t x r =
    let c = counts_small L m t x in
    (omega (arith, r.place, place_small L m t x), omega (arith, r.held_count, c.0), omega (arith, r.entry_count, c.1), omega (arith, r.unmapped_count, c.2))
