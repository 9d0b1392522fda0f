-- What an account and a provider make of a walk, case by case.
use mathlib.Core.Path.{◌≡◌}
use mathlib.Core.Bool.{true, false}
use mathlib.Core.List.{[], ◌∷◌}
use mathlib.Core.Option.{Option}
use Prim.Native.Nat.{ℕ}
use Rattle.text.specs.Utf8.{bytes}
use Rattle.report.specs.Rows.{Place}
use Rattle.report.specs.Values.{text_of}
use Rattle.report.specs.declared.held.Transfer as CodeTransfer
use Rattle.settlement.specs.Document.{Doc}
use Rattle.settlement.specs.Values.{kid_text}
use Rattle.settlement.specs.Payments.{Paying, creditor_account, institution, joined, lost, creditor, provided, provider_of, part}
use Rattle.payment.specs.Walks.{means_of, waits, waiting_rows}
use Rattle.payment.specs.declared.paying.PaymentCard.{PaymentCard}
use Rattle.payment.specs.declared.paying.Means as CodeMeans
use Rattle.payment.specs.declared.paying.Means.TheVariants.{Unset, Card, Debit, Transfers}
use Rattle.std.specs.declared.option.Option as Maybe
use Rattle.std.specs.Prelude.{None, Some}
use Rattle.report.specs.declared.value.Place as CodePlace

module _ (D : Doc ℕ Place) (c : ℕ) (s : Paying Place) where
  module _ {k : CodeMeans.Means} (q : s.payment.means ≡ means_of k) where
    -- an account that is held
    pub joins_unset : k ≡ Unset → joined D c s ≡ part D creditor_account s c
    unfolding part creditor
    joins_unset e = rw (q, e)

    pub joins_transfers : k ≡ Transfers → joined D c s ≡ part D creditor_account s c
    unfolding part creditor
    joins_transfers e = rw (q, e)

    -- one that is lost
    pub lost_card : {a : PaymentCard} → k ≡ Card a → lost s ≡ part D creditor_account s c
    unfolding part creditor
    lost_card e = rw (q, e)

    pub lost_debit : {a : Maybe.Option CodePlace.Place} → k ≡ Debit a → lost s ≡ part D creditor_account s c
    unfolding part creditor
    lost_debit e = rw (q, e)

  module _ {k : Maybe.Option CodeTransfer.Transfer} (l : s.last ≡ waits k) (r : s.rows ≡ waiting_rows k) {o : Option Place} (p : o ≡ kid_text D 0 c (bytes "BICID")) where
    -- a provider with no account before it
    pub provider_lost : k ≡ None → provider_of false [] o s ≡ part D institution s c
    unfolding part
    provider_lost e = rw (l, r, e, p)

    -- one of the account that waits
    pub provider_given :
        {t : CodeTransfer.Transfer} →
        k ≡ Some t →
        record { payment = s.payment; last = true; rows = record { account = text_of t.account; name = text_of t.name; provider = o } ∷ []; says = s.says; strays = s.strays } ≡ part D institution s c
    unfolding part provider_of provided
    provider_given e = rw (l, r, e, p)
