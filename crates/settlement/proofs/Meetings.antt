-- The unmapped names that a reading meets on its way are those met at the children, whatever the state is.
use mathlib.Core.Path.{◌≡◌, refl, sym, ap, ap₂, ◌∙◌}
use mathlib.Core.Bool.{Bool, true, false, cond, true≢false}
use mathlib.Core.List.{List, [], ◌∷◌, ◌++◌, append_assoc, append-nil, foldl, flat_map}
use mathlib.Core.Option.{Option, none, some}
use Rattle.text.specs.Order.{equal}
use Rattle.text.specs.Utf8.{bytes, encode}
use Rattle.names.specs.declared.message.Message.{Message}
use Rattle.names.specs.declared.parent.Parent.TheVariants as Parent
use Rattle.names.specs.declared.path.Path.{Path}
use Rattle.report.specs.Rows.{Transfer, Unmapped}
use Rattle.settlement.specs.Document.{Doc}
use Rattle.settlement.specs.Kinds.{Kind, creditor_reference, payment_reference, tax_currency, invoice_currency, payee, payment_means, trade_tax, period, allowance_charge, logistics_charge, payment_terms, summation, preceding_invoice, accounting, other, same_kind, home, meant, kinds, kind_named}
use Rattle.settlement.specs.Shapes.{Means, unset, card, debit, transfers, Payment, Counts, State, Currencies}
use Rattle.settlement.specs.Values.{Lent}
use Rattle.settlement.specs.Tax.{trade_tax_of, allowance_or_charge, logistics_read, logistics_left, logistics}
use Rattle.settlement.specs.Payments.{unknown, parts, Paying, not_held, with_means, first_means, lost, provider_of, paying_start, part_of, joined, creditor, part, paying, paid, payment_means_of}
use Rattle.settlement.specs.Summation.{unread, sums, Summing, sum_of, summand, summing, summed, totals}
use Rattle.settlement.specs.Walk.{said}
use Rattle.settlement.specs.Settlement.{quiet, period_of, payment_terms_of, preceding_of, own, kind_of, seen, act, step, strays_of}
use Rattle.settlement.specs.Meetings.{is_listed, unlisted, met_at, met}
use Rattle.settlement.proofs.Naming.{meant_listed}
use Rattle.settlement.proofs.Names.{kind_test}
use Rattle.settlement.proofs.Totals.{taxed}

-- a walk that puts what each child gives behind what it has
joined_walk : {N S A : Type 0} (step : S → N → S) (has : S → List A) (f : N → List A) → ((s : S) (n : N) → has (step s n) ≡ has s ++ f n) → (s : S) (cs : List N) → has (foldl step s cs) ≡ has s ++ flat_map f cs
unfolding flat_map
joined_walk step has f h s [] = sym (append-nil (has s))
joined_walk {A = A} step has f h s (c ∷ cs) = joined_walk step has f h (step s c) cs ∙ ap (λ (l : List A). l ++ flat_map f cs) (h s c) ∙ append_assoc (has s) (f c) (flat_map f cs)

-- what is said on the way, where no state matters
said_flat : {C S O : Type 0} (step : S → C → S) (emit : S → C → List O) (f : C → List O) → ((s : S) (c : C) → emit s c ≡ f c) → (s : S) (cs : List C) → said step emit s cs ≡ flat_map f cs
unfolding said flat_map
said_flat step emit f h s [] = refl
said_flat step emit f h s (c ∷ cs) = ap₂ ◌++◌ (h s c) (said_flat step emit f h (step s c) cs)

-- one name more, or none
one_more : {A : Type 0} (l : List A) (a : A) (b : Bool) → cond b l (l ++ a ∷ []) ≡ l ++ cond b [] (a ∷ [])
one_more l a true = sym (append-nil l)
one_more l a false = refl

-- the children of a payment means that are read meet nothing
module _ {X : Type 0} where
  first_strays : (m : Means X) (g : Message) (q : Path) (new : Means X) (s : Paying X) → (first_means m g q new s).strays ≡ s.strays
  unfolding first_means with_means not_held
  first_strays unset g q new s = refl
  first_strays (card a b) g q new s = refl
  first_strays (debit a) g q new s = refl
  first_strays transfers g q new s = refl

  provider_strays : (b : Bool) (l : List (Transfer X)) (o : Option X) (s : Paying X) → (provider_of b l o s).strays ≡ s.strays
  unfolding provider_of not_held
  provider_strays true [] none s = refl
  provider_strays true [] (some x) s = refl
  provider_strays true (t ∷ l) o s = refl
  provider_strays false l none s = refl
  provider_strays false l (some x) s = refl

module _ {N X : Type 0} (L : Lent) (D : Doc N X) where
  creditor_strays : (m : Means X) (c : N) (s : Paying X) → (creditor D m c s).strays ≡ s.strays
  unfolding creditor joined lost not_held
  creditor_strays unset c s = refl
  creditor_strays (card a b) c s = refl
  creditor_strays (debit a) c s = refl
  creditor_strays transfers c s = refl

  paid_strays : (p : Payment X) (n : N) → (paid D p n).strays ≡ unlisted D Parent.PaymentMeans parts (D.kids n)
  unfolding paid paying_start paying part_of part parts unlisted is_listed equal bytes encode
  paid_strays p n =
      joined_walk (paying D) (λ (s : Paying X). s.strays) _
      (λ s c. meant_listed unknown (λ k. (part D k s c).strays) parts (D.bytes (D.name c)) s.strays (refl, (refl, (first_strays s.payment.means _ _ _ s, (first_strays s.payment.means _ _ _ s, (creditor_strays s.payment.means c s, (provider_strays s.last s.rows _ s, tt))))))
      ∙ one_more s.strays _ (is_listed parts (D.bytes (D.name c)))) (paying_start p) (D.kids n)

  -- and so with a summation
  summed_strays : (cur : Currencies X) (n : N) → (summed L D cur n).strays ≡ unlisted D Parent.MonetarySummation sums (D.kids n)
  unfolding summed summing sum_of summand sums unlisted is_listed equal bytes encode
  summed_strays cur n =
      joined_walk (summing L D cur n) (λ (s : Summing X). s.strays) _
      (λ s c. meant_listed unread (λ k. (summand L D k cur n s c).strays) sums (D.bytes (D.name c)) s.strays (refl, (refl, (refl, (refl, (refl, (refl, ((taxed L D cur s c).strays, (refl, (refl, tt)))))))))
      ∙ one_more s.strays _ (is_listed sums (D.bytes (D.name c)))) _ (D.kids n)

  -- what is met at a child of a kind
  met_by : Kind → N → List (Unmapped X)
  met_by k c =
      cond (same_kind k other) (record { parent = Parent.Settlement; name = D.name c } ∷ []) [] ++
      (cond (same_kind k summation) (unlisted D Parent.MonetarySummation sums (D.kids c)) [] ++ cond (same_kind k payment_means) (unlisted D Parent.PaymentMeans parts (D.kids c)) [])

  met-by : (c : N) → met_at D c ≡ met_by (kind_of D c) c
  unfolding met_at met_by kind_of kind_named meant kinds same_kind unlisted flat_map is_listed equal bytes encode
  met-by c =
      ap₂ ◌++◌ (append-nil _ ∙ go (is_listed kinds (D.bytes (D.name c))) (meant_listed other (λ k. same_kind k other) kinds (D.bytes (D.name c)) false (refl, (refl, (refl, (refl, (refl, (refl, (refl, (refl, (refl, (refl, (refl, (refl, (refl, (refl, tt))))))))))))))))
      (ap₂ ◌++◌ (ap (λ (b : Bool). cond b (unlisted D Parent.MonetarySummation sums (D.kids c)) []) (sym (kind_test L D summation refl (λ e. true≢false cc) c)))
      (ap (λ (b : Bool). cond b (unlisted D Parent.PaymentMeans parts (D.kids c)) []) (sym (kind_test L D payment_means refl (λ e. true≢false cc) c))))
    where
      itself : List (Unmapped X)
      itself = record { parent = Parent.Settlement; name = D.name c } ∷ []

      go : (b : Bool) → same_kind (kind_of D c) other ≡ cond b false true → cond b [] itself ≡ cond (same_kind (kind_of D c) other) itself []
      go true e = ap (λ (q : Bool). cond q itself []) (sym e)
      go false e = ap (λ (q : Bool). cond q itself []) (sym e)

  charge_strays : (b : Bool) (s : Counts) (c : N) → (cond b (logistics L D s c) (allowance_or_charge L D s c)).strays ≡ []
  unfolding logistics logistics_read logistics_left allowance_or_charge
  charge_strays true s c = go L.extension
    where
      go : (b : Bool) → (cond b (logistics_read L D s c) (logistics_left s)).strays ≡ []
      go true = refl
      go false = refl
  charge_strays false s c = refl

  own_strays : (k : Kind) (b : Bool) (s : State X) (cur : Currencies X) (c : N) → (own L D (home k) b (s (home k)) cur c).strays ≡ met_by k c
  unfolding own home same_kind met_by quiet payment_means_of trade_tax_of period_of payment_terms_of totals preceding_of
  own_strays creditor_reference b s cur c = refl
  own_strays payment_reference b s cur c = refl
  own_strays tax_currency b s cur c = refl
  own_strays invoice_currency b s cur c = refl
  own_strays payee b s cur c = refl
  own_strays payment_means b s cur c = paid_strays (s payment_means) c
  own_strays trade_tax b s cur c = refl
  own_strays period b s cur c = refl
  own_strays allowance_charge b s cur c = charge_strays b (s allowance_charge) c
  own_strays logistics_charge b s cur c = charge_strays b (s allowance_charge) c
  own_strays payment_terms b s cur c = refl
  own_strays summation b s cur c = summed_strays cur c ∙ sym (append-nil _)
  own_strays preceding_invoice b s cur c = refl
  own_strays accounting b s cur c = refl
  own_strays other b s cur c = refl

  -- whatever the state is
  pub said_met : (s : State X) (cs : List N) → said (step L D) (strays_of L D) s cs ≡ met D cs
  unfolding strays_of act met
  said_met s cs = said_flat (step L D) (strays_of L D) (met_at D) (λ t c. own_strays (kind_of D c) (same_kind (kind_of D c) logistics_charge) t (seen (kind_of D c) t) c ∙ sym (met-by c)) s cs
