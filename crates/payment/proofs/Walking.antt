-- Laws of the walk over the children of a payment means.
use mathlib.Core.Path.{◌≡◌, refl, sym, ap, ◌∙◌}
use mathlib.Core.List.{List, [], ◌∷◌, ◌++◌, map, append-nil, append_assoc, map-append}
use Prim.Native.Nat.{ℕ}
use Rattle.report.specs.Rows.{Place, Entry, Transfer, transfer, Unmapped}
use Rattle.report.specs.HeldRows.{Holds}
use Rattle.report.specs.declared.held.HeldRows.{HeldRows}
use Rattle.report.specs.declared.value.Place as CodePlace
use Rattle.report.proofs.Holding.{holds_none, holds_then}
use Rattle.names.specs.declared.message.Message.{Message}
use Rattle.names.specs.declared.path.Path.{Path}
use Rattle.settlement.specs.Document.{Doc}
use Rattle.settlement.specs.Shapes.{Means}
use Rattle.settlement.specs.Payments.{Paying, paying, not_held, with_means, first_means}
use Rattle.values.specs.Told.{Said}
use Rattle.values.proofs.Telling.{said_none, said_then}
use Rattle.values.specs.declared.saying.Entries.{Entries}
use Rattle.unmapped.specs.Acted.{Notes}
use Rattle.unmapped.specs.declared.note.UnmappedRows.{UnmappedRows}
use Rattle.unmapped.proofs.Notings.{notes_none, notes_then}
use Rattle.payment.specs.Walks.{means_of, payment_of, waits, waiting_rows, paying_of}
use Rattle.payment.specs.Walked.{Walked}
use Rattle.payment.proofs.Ahead.{ahead, paying_ahead}
use Rattle.payment.specs.declared.paying.PaymentCard.{PaymentCard}
use Rattle.payment.specs.declared.paying.Means as CodeMeans
use Rattle.payment.specs.declared.paying.Means.TheVariants.{Unset, Card, Debit, Transfers}
use Rattle.payment.specs.declared.paying.Walk as Code
use Rattle.std.specs.declared.option.Option as Maybe

-- a walk, and what was put, said and noted on the way to it
abbrev pub after : List (Transfer Place) → List (Entry Place) → List (Unmapped Place) → Code.Walk → Paying Place
after ts es us r = record { payment = payment_of r.payment; last = waits r.waiting; rows = ts ++ waiting_rows r.waiting; says = es; strays = us }

walked_after :
    (ts : List (Transfer Place)) {es : List (Entry Place)} {us : List (Unmapped Place)} {s : Paying Place} {w r : Code.Walk} {x : List ℕ} {h h' : HeldRows} {e e' : Entries} {u u' : UnmappedRows} →
    after ts es us r ≡ s →
    Holds (map transfer ts) h h' →
    Said es e e' →
    Notes x us u u' →
    Walked s w r x h h' e e' u u'
walked_after ts k b a n = rw (← k) (record { payment = refl; last = refl; rows = ts; whole = refl; held = b; said = a; noted = n })

-- the account that waited was put, and entries said
pub walked_on :
    {es : List (Entry Place)} {s : Paying Place} {w r : Code.Walk} {h h' : HeldRows} {e e' : Entries} →
    Holds (map transfer (waiting_rows w.waiting)) h h' →
    Said es e e' →
    after (waiting_rows w.waiting) es [] r ≡ s →
    (x : List ℕ) (u : UnmappedRows) →
    Walked s w r x h h' e e' u u
walked_on {es} {s} {w} b a k x u = walked_after (waiting_rows w.waiting) k b a (notes_none x u)

-- entries were said
pub walked_said :
    {es : List (Entry Place)} {s : Paying Place} {w r : Code.Walk} {e e' : Entries} →
    after [] es [] r ≡ s →
    Said es e e' →
    (x : List ℕ) (h : HeldRows) (u : UnmappedRows) →
    Walked s w r x h h e e' u u
walked_said k a x h u = walked_after [] k (holds_none h) a (notes_none x u)

-- nothing was done
pub walked_still :
    {s : Paying Place} {w r : Code.Walk} →
    paying_of r ≡ s →
    (x : List ℕ) (h : HeldRows) (e : Entries) (u : UnmappedRows) →
    Walked s w r x h h e e u u
walked_still a x h e u = walked_said a (said_none e) x h u

-- an unmapped element was noted
pub walked_noted :
    {v : Unmapped Place} {s : Paying Place} {w r : Code.Walk} {x : List ℕ} {u u' : UnmappedRows} →
    after [] [] (v ∷ []) r ≡ s →
    Notes x (v ∷ []) u u' →
    (h : HeldRows) (e : Entries) →
    Walked s w r x h h e e u u'
walked_noted k a h e = walked_after [] k (holds_none h) (said_none e) a

-- by another's definition
pub walked_as : {s t : Paying Place} {w r : Code.Walk} {x : List ℕ} {h h' : HeldRows} {e e' : Entries} {u u' : UnmappedRows} → Walked s w r x h h' e e' u u' → s ≡ t → Walked t w r x h h' e e' u u'
walked_as k e = rw e at k

-- the first means, and those beside another kind
module _ (m : Message) (p : Path) (new : Means Place) (s : Paying Place) {k : CodeMeans.Means} where
  pub first_unset : k ≡ Unset → with_means new s ≡ first_means (means_of k) m p new s
  unfolding first_means
  first_unset e = rw e

  pub beside_card : {a : PaymentCard} → k ≡ Card a → not_held m p s ≡ first_means (means_of k) m p new s
  unfolding first_means
  beside_card e = rw e

  pub beside_debit : {a : Maybe.Option CodePlace.Place} → k ≡ Debit a → not_held m p s ≡ first_means (means_of k) m p new s
  unfolding first_means
  beside_debit e = rw e

  pub beside_transfers : k ≡ Transfers → not_held m p s ≡ first_means (means_of k) m p new s
  unfolding first_means
  beside_transfers e = rw e

-- transfers, one list behind the other
pub held_then : {a b c : HeldRows} (ts us : List (Transfer Place)) → Holds (map transfer ts) a b → Holds (map transfer us) b c → Holds (map transfer (ts ++ us)) a c
held_then ts us p q = rw (map-append transfer ts us) (holds_then p q)

-- one child more
pub walked_then :
    (D : Doc ℕ Place) (c : ℕ) {s : Paying Place} {w₀ w r : Code.Walk} {x : List ℕ} {h₀ h h' : HeldRows} {e₀ e e' : Entries} {u₀ u u' : UnmappedRows} →
    Walked s w₀ w x h₀ h e₀ e u₀ u →
    Walked (paying D (paying_of w) c) w r x h h' e e' u u' →
    Walked (paying D s c) w₀ r x h₀ h' e₀ e' u₀ u'
walked_then D c {s} {w₀} {w} {r} {x} {h₀} {h} {h'} {e₀} {e} {e'} {u₀} {u} {u'} k m = walked_as further (sym (paying_ahead k.rows s.says s.strays D c w) ∙ ap (λ (a : Paying Place). paying D a c) whole)
  where
    whole : ahead k.rows s.says s.strays (paying_of w) ≡ s
    whole = rw (k.payment, k.last, ← k.whole, append-nil s.says, append-nil s.strays)

    further : Walked (ahead k.rows s.says s.strays (paying D (paying_of w) c)) w₀ r x h₀ h' e₀ e' u₀ u'
    further =
        record {
          payment = m.payment;
          last = m.last;
          rows = k.rows ++ m.rows;
          whole = rw (m.whole, append_assoc k.rows);
          held = held_then k.rows m.rows k.held m.held;
          said = said_then k.said m.said;
          noted = notes_then k.noted m.noted;
        }
