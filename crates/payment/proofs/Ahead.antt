-- What one child makes of a walk does not depend on what was put, said and noted before it.
use mathlib.Core.Path.{◌≡◌, refl, ap}
use mathlib.Core.Bool.{true, false}
use mathlib.Core.List.{List, [], ◌∷◌, ◌++◌, append_assoc}
use mathlib.Core.Option.{Option, none, some}
use Prim.Native.Nat.{ℕ}
use Rattle.text.specs.Utf8.{bytes}
use Rattle.names.specs.declared.message.Message.{Message}
use Rattle.names.specs.declared.path.Path.{Path}
use Rattle.report.specs.Rows.{Place, Entry, Transfer, Unmapped}
use Rattle.settlement.specs.Document.{Doc}
use Rattle.settlement.specs.Shapes.{Means, unset, card, debit, transfers}
use Rattle.settlement.specs.Values.{kid_text}
use Rattle.settlement.specs.Payments.{
  Part,
  type_code,
  information,
  financial_card,
  debtor_account,
  creditor_account,
  institution,
  unknown,
  Paying,
  not_held,
  with_means,
  first_means,
  account_of,
  joined,
  lost,
  creditor,
  provided,
  provider_of,
  part,
  part_of,
  paying,
}
use Rattle.payment.specs.Walks.{waits, waiting_rows, paying_of}
use Rattle.payment.specs.declared.paying.Walk as Code
use Rattle.std.specs.declared.option.Option as Maybe
use Rattle.std.specs.Prelude.{None, Some}
use Rattle.report.specs.declared.held.Transfer as CodeTransfer

module _ (ts : List (Transfer Place)) (es : List (Entry Place)) (us : List (Unmapped Place)) where
  -- the same behind earlier rows, entries and unmapped elements
  abbrev pub ahead : Paying Place → Paying Place
  ahead s = record { payment = s.payment; last = s.last; rows = ts ++ s.rows; says = es ++ s.says; strays = us ++ s.strays }

  not_held_ahead : (m : Message) (p : Path) (s : Paying Place) → not_held m p (ahead s) ≡ ahead (not_held m p s)
  unfolding not_held
  not_held_ahead m p s = rw (append_assoc es)

  first_ahead : (m : Message) (p : Path) (new k : Means Place) (s : Paying Place) → first_means k m p new (ahead s) ≡ ahead (first_means k m p new s)
  unfolding first_means with_means
  first_ahead m p new unset s = refl
  first_ahead m p new (card a b) s = not_held_ahead m p s
  first_ahead m p new (debit a) s = not_held_ahead m p s
  first_ahead m p new transfers s = not_held_ahead m p s

  lost_ahead : (s : Paying Place) → lost (ahead s) ≡ ahead (lost s)
  unfolding lost
  lost_ahead s = not_held_ahead Message.AccountBesideOther Path.PaymentMeansCreditorAccount (record { payment = s.payment; last = false; rows = s.rows; says = s.says; strays = s.strays })

  -- a provider goes to the last row, wherever that stands
  provided_ahead : (o : Option Place) (t u : Transfer Place) (ts : List (Transfer Place)) → provided o t (ts ++ (u ∷ [])) ≡ t ∷ (ts ++ provided o u [])
  unfolding provided
  provided_ahead o t u [] = refl
  provided_ahead o t u (v ∷ ts) = ap (λ (l : List (Transfer Place)). t ∷ l) (provided_ahead o v u ts)

  no_account_ahead : (o : Option Place) (l : List (Transfer Place)) (s : Paying Place) → provider_of false l o (ahead s) ≡ ahead (provider_of false [] o s)
  unfolding provider_of
  no_account_ahead none l s = refl
  no_account_ahead (some a) l s = not_held_ahead Message.ProviderWithoutAccount Path.PaymentMeansCreditorInstitution s

  account_ahead : (o : Option Place) (u : Transfer Place) (s : Paying Place) → provider_of true (ts ++ (u ∷ [])) o (ahead s) ≡ ahead (provider_of true (u ∷ []) o s)
  unfolding provider_of
  account_ahead o u s = go ts
    where
      rest : List (Transfer Place) → Paying Place
      rest l = record { payment = s.payment; last = s.last; rows = l; says = es ++ s.says; strays = us ++ s.strays }

      go : (l : List (Transfer Place)) → provider_of true (l ++ (u ∷ [])) o (ahead s) ≡ rest (l ++ provided o u [])
      go [] = refl
      go (t ∷ l) = ap rest (provided_ahead o t u l)

  module _ (D : Doc ℕ Place) (c : ℕ) where
    creditor_ahead : (k : Means Place) (s : Paying Place) → creditor D k c (ahead s) ≡ ahead (creditor D k c s)
    unfolding creditor joined
    creditor_ahead unset s = rw (append_assoc ts)
    creditor_ahead transfers s = rw (append_assoc ts)
    creditor_ahead (card a b) s = lost_ahead s
    creditor_ahead (debit a) s = lost_ahead s

    provider_ahead :
        (o : Option Place) (k : Maybe.Option CodeTransfer.Transfer) (s : Paying Place) → provider_of (waits k) (ts ++ waiting_rows k) o (ahead s) ≡ ahead (provider_of (waits k) (waiting_rows k) o s)
    provider_ahead o None s = no_account_ahead o (ts ++ []) s
    provider_ahead o (Some t) s = account_ahead o _ s

    part_ahead : (q : Part) (w : Code.Walk) → part D q (ahead (paying_of w)) c ≡ ahead (part D q (paying_of w) c)
    unfolding part
    part_ahead type_code w = refl
    part_ahead information w = refl
    part_ahead financial_card w = first_ahead Message.CardBesideOther Path.PaymentMeansFinancialCard (card (kid_text D 0 c (bytes "ID")) (kid_text D 0 c (bytes "CardholderName"))) (paying_of w).payment.means (paying_of w)
    part_ahead debtor_account w = first_ahead Message.DebitedAccountBesideOther Path.PaymentMeansDebtorAccount (debit (account_of D c)) (paying_of w).payment.means (paying_of w)
    part_ahead creditor_account w = creditor_ahead (paying_of w).payment.means (paying_of w)
    part_ahead institution w = provider_ahead (kid_text D 0 c (bytes "BICID")) w.waiting (paying_of w)
    part_ahead unknown w = rw (append_assoc us)

    pub paying_ahead : (w : Code.Walk) → paying D (ahead (paying_of w)) c ≡ ahead (paying D (paying_of w) c)
    unfolding paying
    paying_ahead w = part_ahead (part_of D c) w
