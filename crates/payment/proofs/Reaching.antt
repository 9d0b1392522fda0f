-- The loop over the children of a payment means, and its end.
use mathlib.Core.Path.{◌≡◌, refl}
use mathlib.Core.List.{List, [], ◌∷◌, map, foldl}
use Prim.Native.Nat.{ℕ}
use Rattle.report.specs.Rows.{Place, transfer}
use Rattle.report.specs.HeldRows.{Holds}
use Rattle.report.specs.declared.held.HeldRows.{HeldRows}
use Rattle.settlement.specs.Document.{Doc}
use Rattle.settlement.specs.Shapes.{Payment}
use Rattle.settlement.specs.Payments.{Paying, paying, paid, payment_means_of}
use Rattle.values.specs.declared.saying.Entries.{Entries}
use Rattle.unmapped.specs.Acted.{Acted}
use Rattle.unmapped.specs.declared.note.UnmappedRows.{UnmappedRows}
use Rattle.payment.specs.Walks.{payment_of, waiting_rows, paying_of}
use Rattle.payment.specs.Walked.{Walked}
use Rattle.payment.specs.declared.paying.Walk as Code
use Rattle.payment.proofs.Walking.{walked_still, walked_then, held_then}

-- with the children cs to go: those so far made `so`, and the rest make of it what all children make
pub record Reached (D : Doc ℕ Place) (x ks : List ℕ) (w₀ : Code.Walk) (h₀ : HeldRows) (e₀ : Entries) (u₀ : UnmappedRows) (cs : List ℕ) (w : Code.Walk) (h : HeldRows) (e : Entries) (u : UnmappedRows) : Type 0 where
  pub so : Paying Place
  pub rest : foldl (paying D) (paying_of w₀) ks ≡ foldl (paying D) so cs
  pub walked : Walked so w₀ w x h₀ h e₀ e u₀ u

module _ {D : Doc ℕ Place} {x ks : List ℕ} {w₀ : Code.Walk} {h₀ : HeldRows} {e₀ : Entries} {u₀ : UnmappedRows} where
  pub reached_start : {cs : List ℕ} → cs ≡ ks → Reached D x ks w₀ h₀ e₀ u₀ cs w₀ h₀ e₀ u₀
  reached_start q = record { so = paying_of w₀; rest = rw q; walked = walked_still refl x h₀ e₀ u₀ }

  module _ {cs : List ℕ} {w : Code.Walk} {h : HeldRows} {e : Entries} {u : UnmappedRows} (k : Reached D x ks w₀ h₀ e₀ u₀ cs w h e u) where
    pub reached_turn :
        {c : ℕ} {ds : List ℕ} {r : Code.Walk} {h' : HeldRows} {e' : Entries} {u' : UnmappedRows} → cs ≡ c ∷ ds → Walked (paying D (paying_of w) c) w r x h h' e e' u u' →
        Reached D x ks w₀ h₀ e₀ u₀ ds r h' e' u'
    reached_turn {c} q m = record { so = paying D k.so c; rest = rw q at k.rest; walked = walked_then D c k.walked m }

    pub reached_end : cs ≡ [] → Walked (foldl (paying D) (paying_of w₀) ks) w₀ w x h₀ h e₀ e u₀ u
    reached_end q = rw (k.rest, q) k.walked

-- the account that still waits is put
pub acted :
    (D : Doc ℕ Place) (p : Payment Place) (n : ℕ) {w₀ w : Code.Walk} {x : List ℕ} {h₀ h h' : HeldRows} {e₀ e : Entries} {u₀ u : UnmappedRows} →
    Walked (paid D p n) w₀ w x h₀ h e₀ e u₀ u →
    Holds (map transfer (waiting_rows w.waiting)) h h' →
    Acted (payment_means_of D p n) x (payment_of w.payment) h₀ h' e₀ e u₀ u
unfolding payment_means_of
acted D p n {w₀} {w} m q = record { same = m.payment; held = rw m.whole (held_then m.rows (waiting_rows w.waiting) m.held q); said = m.said; noted = m.noted }
