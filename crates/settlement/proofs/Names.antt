-- Demand 3 within a document: names alone say which children may change places.
use mathlib.Core.Path.{◌≡◌, refl, sym, ap, ◌∙◌}
use mathlib.Core.Bool.{Bool, true, false, cond, true≢false}
use mathlib.Core.List.{List, [], ◌∷◌}
use mathlib.Core.Logic.{◌⊎◌, inl, inr, ◌≢◌}
use Prim.Native.Nat.{ℕ}
use Prim.Native.String.{String}
use Rattle.text.specs.Order.{equal}
use Rattle.text.specs.Utf8.{bytes, encode}
use Rattle.text.proofs.Orders.{equal_is, equal_refl, order_is, order_turned, order_trans}
use Rattle.report.specs.Rows.{Unmapped}
use Rattle.names.proofs.Numbers.{parent_same}
use Rattle.settlement.specs.Document.{Doc}
use Rattle.settlement.specs.Kinds.{Kind, creditor_reference, payment_reference, tax_currency, invoice_currency, payee, payment_means, trade_tax, period, allowance_charge, logistics_charge, payment_terms, summation, preceding_invoice, accounting, other, Kind-discrete, is_yes, same_kind, home, meant, kinds, kind_named}
use Rattle.settlement.specs.Values.{Lent}
use Rattle.settlement.specs.Settlement.{kind_of, unmapped_key, unmapped_order, reading}
use Rattle.settlement.specs.Alike.{Alike}
use Rattle.settlement.specs.Last.{is_named}
use Rattle.settlement.specs.Exchange.{Pair, LeftOut, Exchanged}
use Rattle.settlement.proofs.Sorting.{Total}
use Rattle.settlement.proofs.Lanes.{is_yes_true, is_yes_here, same_kind_eq, same_kind_refl, same_kind_no, same_test, home_cases, Charges, home_same}
use Rattle.settlement.proofs.Exchange.{Lanes, NoCurrency, Free, exchange}

-- the name of a kind
abbrev pub kind_name : Kind → String
kind_name creditor_reference = "CreditorReferenceID"
kind_name payment_reference = "PaymentReference"
kind_name tax_currency = "TaxCurrencyCode"
kind_name invoice_currency = "InvoiceCurrencyCode"
kind_name payee = "PayeeTradeParty"
kind_name payment_means = "SpecifiedTradeSettlementPaymentMeans"
kind_name trade_tax = "ApplicableTradeTax"
kind_name period = "BillingSpecifiedPeriod"
kind_name allowance_charge = "SpecifiedTradeAllowanceCharge"
kind_name logistics_charge = "SpecifiedLogisticsServiceCharge"
kind_name payment_terms = "SpecifiedTradePaymentTerms"
kind_name summation = "SpecifiedTradeSettlementHeaderMonetarySummation"
kind_name preceding_invoice = "InvoiceReferencedDocument"
kind_name accounting = "ReceivableSpecifiedTradeAccountingAccount"
kind_name other = ""

-- names and what they mean in a list, a where it has none
module _ {A : Type 0} (a : A) (name_of : A → String) where
  -- a list that has each under its name
  abbrev pub Named : List (String × A) → Type 0
  Named [] = Unit {0}
  Named (c ∷ cs) = (c.0 ≡ name_of c.1) × Named cs

  pub meant_name : (cs : List (String × A)) → Named cs → (s : List ℕ) → (meant a cs s ≡ a) ⊎ (s ≡ bytes (name_of (meant a cs s)))
  unfolding meant
  meant_name [] h s = inl refl
  meant_name (c ∷ cs) h s = go (equal s (bytes c.0)) refl (meant_name cs h.1 s)
    where
      go : (b : Bool) → equal s (bytes c.0) ≡ b → (meant a cs s ≡ a) ⊎ (s ≡ bytes (name_of (meant a cs s))) → (cond b c.1 (meant a cs s) ≡ a) ⊎ (s ≡ bytes (name_of (cond b c.1 (meant a cs s))))
      go true e i = inr (equal_is s (bytes c.0) e ∙ ap bytes h.0)
      go false e i = i

  -- a text means k just where it is its name
  pub meant_test : (same : (b c : A) → Dec (b ≡ c)) (cs : List (String × A)) → Named cs → (k : A) → meant a cs (bytes (name_of k)) ≡ k → k ≢ a → (s : List ℕ) → is_yes (same (meant a cs s) k) ≡ equal s (bytes (name_of k))
  meant_test same cs h k e d s = same_test (is_yes (same (meant a cs s) k)) (equal s (bytes (name_of k))) there back
    where
      there : is_yes (same (meant a cs s) k) ≡ true → equal s (bytes (name_of k)) ≡ true
      there i = go (meant_name cs h s) (is_yes_true (same (meant a cs s) k) i)
        where
          go : (meant a cs s ≡ a) ⊎ (s ≡ bytes (name_of (meant a cs s))) → meant a cs s ≡ k → equal s (bytes (name_of k)) ≡ true
          go (inl o) m = absurd (d (sym m ∙ o))
          go (inr o) m = ap (λ (t : List ℕ). equal t (bytes (name_of k))) (o ∙ ap (λ (i : A). bytes (name_of i)) m) ∙ equal_refl (bytes (name_of k))

      back : equal s (bytes (name_of k)) ≡ true → is_yes (same (meant a cs s) k) ≡ true
      back i = is_yes_here (same (meant a cs s) k) (ap (meant a cs) (equal_is s (bytes (name_of k)) i) ∙ e)

kinds_named : Named other kind_name kinds
unfolding kinds
kinds_named = (refl, (refl, (refl, (refl, (refl, (refl, (refl, (refl, (refl, (refl, (refl, (refl, (refl, (refl, tt))))))))))))))

-- a lane of its own: its children are those of its name
pub record Own (l : Kind) : Type 0 where
  pub named : kind_named (bytes (kind_name l)) ≡ l
  pub home : home l ≡ l
  pub read : l ≢ other
  pub alone : l ≢ allowance_charge

-- the kinds that have one
abbrev pub Alone : Kind → Type 0
Alone creditor_reference = Unit {0}
Alone payment_reference = Unit {0}
Alone tax_currency = Unit {0}
Alone invoice_currency = Unit {0}
Alone payee = Unit {0}
Alone payment_means = Unit {0}
Alone trade_tax = Unit {0}
Alone period = Unit {0}
Alone allowance_charge = ⊥
Alone logistics_charge = ⊥
Alone payment_terms = Unit {0}
Alone summation = Unit {0}
Alone preceding_invoice = Unit {0}
Alone accounting = Unit {0}
Alone other = ⊥

pub own_of : (l : Kind) → Alone l → Own l
unfolding home same_kind meant kinds kind_named equal bytes encode
own_of creditor_reference a = record { named = refl; home = refl; read = λ e. true≢false cc; alone = λ e. true≢false cc }
own_of payment_reference a = record { named = refl; home = refl; read = λ e. true≢false cc; alone = λ e. true≢false cc }
own_of tax_currency a = record { named = refl; home = refl; read = λ e. true≢false cc; alone = λ e. true≢false cc }
own_of invoice_currency a = record { named = refl; home = refl; read = λ e. true≢false cc; alone = λ e. true≢false cc }
own_of payee a = record { named = refl; home = refl; read = λ e. true≢false cc; alone = λ e. true≢false cc }
own_of payment_means a = record { named = refl; home = refl; read = λ e. true≢false cc; alone = λ e. true≢false cc }
own_of trade_tax a = record { named = refl; home = refl; read = λ e. true≢false cc; alone = λ e. true≢false cc }
own_of period a = record { named = refl; home = refl; read = λ e. true≢false cc; alone = λ e. true≢false cc }
own_of allowance_charge a = absurd a
own_of logistics_charge a = absurd a
own_of payment_terms a = record { named = refl; home = refl; read = λ e. true≢false cc; alone = λ e. true≢false cc }
own_of summation a = record { named = refl; home = refl; read = λ e. true≢false cc; alone = λ e. true≢false cc }
own_of preceding_invoice a = record { named = refl; home = refl; read = λ e. true≢false cc; alone = λ e. true≢false cc }
own_of accounting a = record { named = refl; home = refl; read = λ e. true≢false cc; alone = λ e. true≢false cc }
own_of other a = absurd a

module _ {N X : Type 0} (L : Lent) (D : Doc N X) where
  abbrev name : N → List ℕ
  name n = D.bytes (D.name n)

  -- a kind that is read has its name
  pub kind-name : (n : N) (k : Kind) → kind_of D n ≡ k → k ≢ other → name n ≡ bytes (kind_name k)
  unfolding kind_of kind_named
  kind-name n k e d = go (meant_name other kind_name kinds kinds_named (name n))
    where
      go : (meant other kinds (name n) ≡ other) ⊎ (name n ≡ bytes (kind_name (meant other kinds (name n)))) → name n ≡ bytes (kind_name k)
      go (inl o) = absurd (d (sym e ∙ o))
      go (inr s) = s ∙ ap (λ (i : Kind). bytes (kind_name i)) e

  -- a child is of a kind that is read just where it has its name
  pub kind_test : (k : Kind) → kind_named (bytes (kind_name k)) ≡ k → k ≢ other → (n : N) → same_kind (kind_of D n) k ≡ is_named D (kind_name k) n
  unfolding is_named kind_of kind_named same_kind
  kind_test k e d n = meant_test other kind_name Kind-discrete kinds kinds_named k e d (name n)

  pub home_is : (k l : Kind) → home k ≡ l → l ≢ allowance_charge → k ≡ l
  unfolding home same_kind
  home_is k l e d = go (home_cases k)
    where
      go : (home k ≡ k) ⊎ (k ≡ logistics_charge) → k ≡ l
      go (inl p) = sym p ∙ e
      go (inr p) = absurd (d (sym e ∙ ap home p))

  pub at_home : (l : Kind) → Own l → (n : N) → same_kind l (home (kind_of D n)) ≡ is_named D (kind_name l) n
  at_home l o n =
      same_test (same_kind l (home (kind_of D n))) (same_kind (kind_of D n) l)
      (λ h. rw (home_is (kind_of D n) l (sym (same_kind_eq l (home (kind_of D n)) h)) o.alone) (same_kind_refl l))
      (λ h. rw (same_kind_eq (kind_of D n) l h, o.home) (same_kind_refl l))
      ∙ kind_test l o.named o.read n

  -- two names of one kind: both are unmapped
  both_other : (x y : N) → kind_of D x ≡ kind_of D y → name x ≢ name y → kind_of D x ≡ other
  both_other x y e d = go (Kind-discrete (kind_of D x) other)
    where
      go : Dec (kind_of D x ≡ other) → kind_of D x ≡ other
      go (yes p) = p
      go (no p) = absurd (d (kind-name x (kind_of D x) refl p ∙ sym (kind-name y (kind_of D x) (sym e) p)))

  charges : (x y : N) → Charges (kind_of D x) (kind_of D y) → Pair (name x) (name y)
  charges x y c = inr (inr (kind-name x allowance_charge c.fst (λ e. true≢false cc), kind-name y logistics_charge c.snd (λ e. true≢false cc)))

  lanes : (x y : N) → name x ≢ name y → ¬ LeftOut (name x) (name y) → Dec (home (kind_of D x) ≡ home (kind_of D y)) → Lanes L D x y
  lanes x y d a (no p) = inl (same_kind_no (home (kind_of D x)) (home (kind_of D y)) p)
  lanes x y d a (yes p) = go (home_same (kind_of D x) (kind_of D y) p)
    where
      go : (kind_of D x ≡ kind_of D y) ⊎ (Charges (kind_of D x) (kind_of D y) ⊎ Charges (kind_of D y) (kind_of D x)) → Lanes L D x y
      go (inl e) = inr (both_other x y e d, sym e ∙ both_other x y e d)
      go (inr (inl c)) = absurd (a (inl (charges x y c)))
      go (inr (inr c)) = absurd (a (inr (charges y x c)))

  money : (x y : N) → ¬ LeftOut (name x) (name y) → kind_of D x ≡ summation → NoCurrency L D y
  money x y a e = (
    same_kind_no invoice_currency (home (kind_of D y)) (λ p. a (inr (inl (kind-name y invoice_currency (home_is (kind_of D y) invoice_currency (sym p) (λ q. true≢false cc)) (λ q. true≢false cc), sum)))),
    same_kind_no tax_currency (home (kind_of D y)) (λ p. a (inr (inr (inl (kind-name y tax_currency (home_is (kind_of D y) tax_currency (sym p) (λ q. true≢false cc)) (λ q. true≢false cc), sum))))),
  )
    where
      sum : name x ≡ bytes (kind_name summation)
      sum = kind-name x summation e (λ q. true≢false cc)

  free : (x y : N) → name x ≢ name y → ¬ LeftOut (name x) (name y) → Free L D x y
  free x y d a = record { lanes = lanes x y d a (Kind-discrete (home (kind_of D x)) (home (kind_of D y))); money = λ e. money x y a (same_kind_eq (kind_of D x) summation e) }

turned : {a b : List ℕ} → ¬ LeftOut a b → ¬ LeftOut b a
turned h (inl p) = h (inr p)
turned h (inr p) = h (inl p)

-- where texts stand for themselves, unmapped names are in a total order
module _ {N : Type 0} (L : Lent) (D : Doc N (List ℕ)) (plain : (s : List ℕ) → D.bytes s ≡ s) where
  key_same : (a b : Unmapped (List ℕ)) → unmapped_key D a ≡ unmapped_key D b → a ≡ b
  unfolding unmapped_key
  key_same a b e =
      let p : a.parent ≡ b.parent = parent_same a.parent b.parent (cc) in
      let h : D.bytes a.name ≡ D.bytes b.name = cc in
      let n : a.name ≡ b.name = sym (plain a.name) ∙ h ∙ plain b.name in
      λ i. record { parent = p i; name = n i }

  unmapped_total : Total (unmapped_order D)
  unfolding unmapped_order
  unmapped_total =
      record {
        turned = λ a b. order_turned (unmapped_key D a) (unmapped_key D b);
        same = λ a b e. key_same a b (order_is (unmapped_key D a) (unmapped_key D b) e);
        trans = λ a b c. order_trans (unmapped_key D a) (unmapped_key D b) (unmapped_key D c);
      }

  -- two settlements that differ by an exchange have readings that differ in order alone
  pub exchanged : (n m : N) → Exchanged D n m → Alike (reading L D n) (reading L D m)
  unfolding reading
  exchanged n m e =
      rw (e.left, e.right)
      (exchange L D unmapped_total e.x e.y (free L D e.x e.y e.names e.allowed) (free L D e.y e.x (λ p. e.names (sym p)) (turned e.allowed)) e.pre e.post)
