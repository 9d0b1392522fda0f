-- The terms of which the first child decides that gives them (document 01, `read.rs`: BT-7, BT-8, BT-81, BT-82), and BG-16.
use mathlib.Core.Path.{◌≡◌, refl, sym, ap, ◌∙◌}
use mathlib.Core.Bool.{Bool, true, false, cond, not, ◌||◌, true≢false}
use mathlib.Core.List.{List, [], ◌∷◌, ◌++◌, foldl, flat_map}
use mathlib.Core.Option.{Option, none, some}
use Prim.Native.Nat.{ℕ}
use Rattle.text.specs.Utf8.{bytes}
use Rattle.codes.specs.VatPoint.{vat_point_date_code_of}
use Rattle.names.specs.declared.message.Message.{Message}
use Rattle.names.specs.declared.path.Path.{Path}
use Rattle.settlement.specs.Document.{Doc, maybe, or_else}
use Rattle.settlement.specs.Kinds.{Kind, payment_means, trade_tax, same_kind, home, is_yes}
use Rattle.settlement.specs.Shapes.{Means, unset, card, debit, transfers, Payment, VatState, Of, State, blank}
use Rattle.settlement.specs.Values.{Lent, own_text, text_in, kid_text, date}
use Rattle.settlement.specs.Tax.{point_date, fresh_code, again_code, point_code, trade_tax_of}
use Rattle.settlement.specs.Payments.{Part, type_code, information, financial_card, debtor_account, creditor_account, institution, unknown, Part-discrete, Paying, part_of, not_held, with_means, first_means, joined, lost, creditor, part, paying, paying_start, paid, payment_means_of}
use Rattle.settlement.specs.Summation.{is_none}
use Rattle.settlement.specs.Settlement.{own, kind_of, act, step, after, terms_of, reading_of}
use Rattle.settlement.specs.Alike.{keep}
use Rattle.settlement.specs.Last.{is_named, last_that, last_named, first_given}
use Rattle.settlement.specs.ChildRows.{day_in}
use Rattle.settlement.specs.Transfers.{payment_means_in, parts_in}
use Rattle.settlement.proofs.Exchange.{frame, own_lane}
use Rattle.settlement.proofs.Names.{kind_name, Own, own_of, at_home}
use Rattle.settlement.proofs.LastWins.{reference_last, mandate_last, creditor_last}
use Rattle.settlement.proofs.PlainValues.{date_is}
use Rattle.settlement.proofs.PaymentParts.{part_test, provider_payment}

pub or-none : {A : Type 0} (o : Option A) → or_else o none ≡ o
or-none none = refl
or-none (some a) = refl

pub or_join : {A : Type 0} (o p q : Option A) → or_else (or_else o p) q ≡ or_else o (or_else p q)
or_join none p q = refl
or_join (some a) p q = refl

-- a walk that keeps what it has, and else takes what the next child gives
first_walk : {N S A : Type 0} (step : S → N → S) (has : S → Option A) (f : N → Option A) → ((s : S) (n : N) → has (step s n) ≡ or_else (has s) (f n)) → (s : S) (cs : List N) → has (foldl step s cs) ≡ or_else (has s) (first_given f cs)
unfolding first_given
first_walk step has f h s [] = sym (or-none (has s))
first_walk step has f h s (c ∷ cs) = first_walk step has f h (step s c) cs ∙ ap (λ o. or_else o (first_given f cs)) (h s c) ∙ or_join (has s) (f c) (first_given f cs)

first_append : {N A : Type 0} (f : N → Option A) (l r : List N) → first_given f (l ++ r) ≡ or_else (first_given f l) (first_given f r)
unfolding first_given
first_append f [] r = refl
first_append f (c ∷ l) r = ap (or_else (f c)) (first_append f l r) ∙ sym (or_join (f c) (first_given f l) (first_given f r))

-- of those that pass a test
first_keep : {N A : Type 0} (t : N → Bool) (f : N → Option A) (l : List N) → first_given (λ c. cond (t c) (f c) none) l ≡ first_given f (keep t l)
unfolding first_given keep
first_keep t f [] = refl
first_keep t f (c ∷ l) = go (t c) (first_keep t f l)
  where
    go : (b : Bool) → first_given (λ c. cond (t c) (f c) none) l ≡ first_given f (keep t l) → or_else (cond b (f c) none) (first_given (λ c. cond (t c) (f c) none) l) ≡ first_given f (cond b (c ∷ keep t l) (keep t l))
    go true e = ap (or_else (f c)) e
    go false e = e

-- of all children of the children
first_flat : {N A : Type 0} (kids : N → List N) (f : N → Option A) (ns : List N) → first_given (λ n. first_given f (kids n)) ns ≡ first_given f (flat_map kids ns)
unfolding first_given flat_map
first_flat kids f [] = refl
first_flat kids f (n ∷ ns) = ap (or_else (first_given f (kids n))) (first_flat kids f ns) ∙ sym (first_append f (kids n) (flat_map kids ns))

module _ {N X : Type 0} (L : Lent) (D : Doc N X) where
  -- a lane whose state keeps what it has: the first child of its name that gives something decides
  first_lane : {A : Type 0} (l : Kind) → Own l → (has : Of X l → Option A) (f : N → Option A) → ((s : State X) (n : N) → has (act L D l s n).next ≡ or_else (has (s l)) (f n)) → (s : State X) (cs : List N) → has (foldl (step L D) s cs l) ≡ or_else (has (s l)) (first_given f (keep (is_named D (kind_name l)) cs))
  first_lane {A} l o has f h s cs = first_walk (step L D) (λ (t : State X). has (t l)) (λ n. cond (is_named D (kind_name l) n) (f n) none) one s cs ∙ ap (or_else (has (s l))) (first_keep (is_named D (kind_name l)) f cs)
    where
      one : (t : State X) (n : N) → has (step L D t n l) ≡ or_else (has (t l)) (cond (is_named D (kind_name l) n) (f n) none)
      one t n = rw (← (at_home L D l o n)) (go (same_kind l (home (kind_of D n))) refl)
        where
          go : (b : Bool) → same_kind l (home (kind_of D n)) ≡ b → has (step L D t n l) ≡ or_else (has (t l)) (cond b (f n) none)
          go true e = ap has (own_lane L D l t n e) ∙ h t n
          go false e = ap has (frame L D l t n e) ∙ sym (or-none (has (t l)))

  -- BT-7: the point date is kept once one is read
  point_next : (s : VatState X) (n : N) → (trade_tax_of L D s n).next.point ≡ or_else s.point (day_in L.mode D n (bytes "TaxPointDate"))
  unfolding trade_tax_of point_date
  point_next s n = go s.point
    where
      go : (o : Option ℕ) → (maybe (date L.mode D true Path.TaxPointDateTimeString Path.TaxPointDateString n (bytes "TaxPointDate")) (λ d. (some d, [])) o).0 ≡ or_else o (day_in L.mode D n (bytes "TaxPointDate"))
      go none = date_is L.mode D _ _ _ n (bytes "TaxPointDate")
      go (some d) = refl

  -- the first code as it is written
  code_next : (s : VatState X) (n : N) → (trade_tax_of L D s n).next.first ≡ or_else s.first (kid_text D 0 n (bytes "DueDateTypeCode"))
  unfolding trade_tax_of point_code fresh_code again_code
  code_next s n = go s.first refl (kid_text D 0 n (bytes "DueDateTypeCode"))
    where
      go : (f : Option X) → s.first ≡ f → (o : Option X) → (maybe (s, []) (λ x. maybe (fresh_code D s x (vat_point_date_code_of (D.bytes x))) (again_code D s x) f) o).0.first ≡ or_else f o
      go none e none = e
      go none e (some x) = refl
      go (some y) e none = e
      go (some y) e (some x) = e

  -- BT-8 is what it means
  means_of : Option X → Option ℕ
  means_of o = maybe none (λ x. (vat_point_date_code_of (D.bytes x)).value) o

  code-means : (s : VatState X) (n : N) → s.code ≡ means_of s.first → (trade_tax_of L D s n).next.code ≡ means_of (trade_tax_of L D s n).next.first
  unfolding trade_tax_of point_code fresh_code again_code means_of
  code-means s n h = go s.first (kid_text D 0 n (bytes "DueDateTypeCode"))
    where
      go : (f o : Option X) → (maybe (s, []) (λ x. maybe (fresh_code D s x (vat_point_date_code_of (D.bytes x))) (again_code D s x) f) o).0.code ≡ means_of (maybe (s, []) (λ x. maybe (fresh_code D s x (vat_point_date_code_of (D.bytes x))) (again_code D s x) f) o).0.first
      go f none = h
      go none (some x) = refl
      go (some y) (some x) = h

  walk_code : (s : State X) (cs : List N) → (s trade_tax).code ≡ means_of (s trade_tax).first → (foldl (step L D) s cs trade_tax).code ≡ means_of (foldl (step L D) s cs trade_tax).first
  unfolding act own
  walk_code s [] h = h
  walk_code s (c ∷ cs) h = walk_code (step L D s c) cs (go (same_kind trade_tax (home (kind_of D c))) refl)
    where
      go : (b : Bool) → same_kind trade_tax (home (kind_of D c)) ≡ b → (step L D s c trade_tax).code ≡ means_of (step L D s c trade_tax).first
      go true e = rw (own_lane L D trade_tax s c e) (code-means (s trade_tax) c h)
      go false e = rw (frame L D trade_tax s c e) h

  -- any other part leaves code and text of a payment alone
  record Kept (p q : Payment X) : Type 0 where
    pub met : p.met ≡ true → q.met ≡ true
    pub code : q.code ≡ p.code
    pub text : q.text ≡ p.text

  first_kept : (m : Means X) (g : Message) (q : Path) (new : Means X) (s : Paying X) → Kept s.payment (first_means m g q new s).payment
  unfolding first_means with_means not_held
  first_kept unset g q new s = record { met = λ h. refl; code = refl; text = refl }
  first_kept (card a b) g q new s = record { met = λ h. h; code = refl; text = refl }
  first_kept (debit a) g q new s = record { met = λ h. h; code = refl; text = refl }
  first_kept transfers g q new s = record { met = λ h. h; code = refl; text = refl }

  creditor_kept : (m : Means X) (c : N) (s : Paying X) → Kept s.payment (creditor D m c s).payment
  unfolding creditor joined lost not_held
  creditor_kept unset c s = record { met = λ h. refl; code = refl; text = refl }
  creditor_kept (card a b) c s = record { met = λ h. h; code = refl; text = refl }
  creditor_kept (debit a) c s = record { met = λ h. h; code = refl; text = refl }
  creditor_kept transfers c s = record { met = λ h. refl; code = refl; text = refl }

  -- what a part gives: BT-81 as it is, BT-82 where it is not blank
  record Given (p : Part) (s : Paying X) (c : N) : Type 0 where
    pub met : s.payment.met ≡ true → (part D p s c).payment.met ≡ true
    pub code : (part D p s c).payment.code ≡ or_else s.payment.code (cond (is_yes (Part-discrete p type_code)) (some (own_text D 0 c)) none)
    pub text : (part D p s c).payment.text ≡ or_else s.payment.text (cond (is_yes (Part-discrete p information)) (text_in D 0 c) none)

  kept_given : (p : Part) (s : Paying X) (c : N) → is_yes (Part-discrete p type_code) ≡ false → is_yes (Part-discrete p information) ≡ false → Kept s.payment (part D p s c).payment → Given p s c
  kept_given p s c a b k =
      record { met = k.met; code = rw a (k.code ∙ sym (or-none s.payment.code)); text = rw b (k.text ∙ sym (or-none s.payment.text)) }

  part_given : (p : Part) (s : Paying X) (c : N) → Given p s c
  unfolding part
  part_given type_code s c = record { met = λ h. refl; code = refl; text = sym (or-none s.payment.text) }
  part_given information s c = record { met = λ h. refl; code = sym (or-none s.payment.code); text = refl }
  part_given financial_card s c = kept_given financial_card s c refl refl (first_kept s.payment.means _ _ _ s)
  part_given debtor_account s c = kept_given debtor_account s c refl refl (first_kept s.payment.means _ _ _ s)
  part_given creditor_account s c = kept_given creditor_account s c refl refl (creditor_kept s.payment.means c s)
  part_given institution s c =
      kept_given institution s c refl refl
      (record {
        met = λ h. ap (λ (p : Payment X). p.met) (provider_payment D s.last s.rows _ s) ∙ h;
        code = ap (λ (p : Payment X). p.code) (provider_payment D s.last s.rows _ s);
        text = ap (λ (p : Payment X). p.text) (provider_payment D s.last s.rows _ s);
      })
  part_given unknown s c = kept_given unknown s c refl refl (record { met = λ h. h; code = refl; text = refl })

  -- BT-81 and BT-82 of one payment means
  paid_code : (p : Payment X) (n : N) → (paid D p n).payment.code ≡ or_else p.code (first_given (λ c. cond (is_named D "TypeCode" c) (some (own_text D 0 c)) none) (D.kids n))
  unfolding paid paying_start paying
  paid_code p n =
      first_walk (paying D) (λ (s : Paying X). s.payment.code) (λ c. cond (is_named D "TypeCode" c) (some (own_text D 0 c)) none) (λ s c. rw (part_test D type_code (λ e. true≢false cc) c) (part_given (part_of D c) s c).code) (paying_start p) (D.kids n)

  paid_text : (p : Payment X) (n : N) → (paid D p n).payment.text ≡ or_else p.text (first_given (λ c. cond (is_named D "Information" c) (text_in D 0 c) none) (D.kids n))
  unfolding paid paying_start paying
  paid_text p n =
      first_walk (paying D) (λ (s : Paying X). s.payment.text) (λ c. cond (is_named D "Information" c) (text_in D 0 c) none) (λ s c. rw (part_test D information (λ e. true≢false cc) c) (part_given (part_of D c) s c).text) (paying_start p) (D.kids n)

  -- a payment means is met
  parts_met : (s : Paying X) (cs : List N) → s.payment.met ≡ true → (foldl (paying D) s cs).payment.met ≡ true
  unfolding paying
  parts_met s [] h = h
  parts_met s (c ∷ cs) h = parts_met (paying D s c) cs ((part_given (part_of D c) s c).met h)

  met_next : (s : State X) (c : N) → (step L D s c payment_means).met ≡ (s payment_means).met || is_named D "SpecifiedTradeSettlementPaymentMeans" c
  unfolding act own payment_means_of paid paying_start
  met_next s c = rw (← (at_home L D payment_means (own_of payment_means tt) c)) (go (same_kind payment_means (home (kind_of D c))) (s payment_means).met refl refl)
    where
      go : (b m : Bool) → same_kind payment_means (home (kind_of D c)) ≡ b → (s payment_means).met ≡ m → (step L D s c payment_means).met ≡ m || b
      go true true e f = ap (λ (p : Payment X). p.met) (own_lane L D payment_means s c e) ∙ parts_met (paying_start (s payment_means)) (D.kids c) refl
      go true false e f = ap (λ (p : Payment X). p.met) (own_lane L D payment_means s c e) ∙ parts_met (paying_start (s payment_means)) (D.kids c) refl
      go false true e f = ap (λ (p : Payment X). p.met) (frame L D payment_means s c e) ∙ f
      go false false e f = ap (λ (p : Payment X). p.met) (frame L D payment_means s c e) ∙ f

  walk_met : (s : State X) (cs : List N) → (foldl (step L D) s cs payment_means).met ≡ (s payment_means).met || not (is_none (last_named D "SpecifiedTradeSettlementPaymentMeans" cs))
  unfolding last_named last_that
  walk_met s [] = go (s payment_means).met
    where
      go : (m : Bool) → m ≡ m || false
      go true = refl
      go false = refl
  walk_met s (c ∷ cs) =
      walk_met (step L D s c) cs
      ∙ ap (λ (m : Bool). m || not (is_none (last_named D "SpecifiedTradeSettlementPaymentMeans" cs))) (met_next s c)
      ∙ go (s payment_means).met (is_named D "SpecifiedTradeSettlementPaymentMeans" c) (last_named D "SpecifiedTradeSettlementPaymentMeans" cs)
    where
      go : (m b : Bool) (r : Option N) → (m || b) || not (is_none r) ≡ m || not (is_none (or_else r (cond b (some c) none)))
      go true b r = refl
      go false true none = refl
      go false false none = refl
      go false true (some n) = refl
      go false false (some n) = refl

none_some : {A B : Type 0} (f : A → B) (o : Option A) → is_none (maybe none (λ a. some (f a)) o) ≡ is_none o
none_some f none = refl
none_some f (some a) = refl

module _ {N X : Type 0} (L : Lent) (D : Doc N X) (cs : List N) where
  -- BT-7 is the first TaxPointDate that can be read
  pub bt7_first : (reading_of L D cs).terms.bt7 ≡ first_given (λ n. day_in L.mode D n (bytes "TaxPointDate")) (keep (is_named D "ApplicableTradeTax") cs)
  unfolding reading_of terms_of after act own
  bt7_first = first_lane L D trade_tax (own_of trade_tax tt) (λ (s : VatState X). s.point) (λ n. day_in L.mode D n (bytes "TaxPointDate")) (λ s n. point_next L D (s trade_tax) n) (blank X) cs

  -- BT-8 is what the first DueDateTypeCode means, readable or not
  pub bt8_first : (reading_of L D cs).terms.bt8 ≡ maybe none (λ x. (vat_point_date_code_of (D.bytes x)).value) (first_given (λ n. kid_text D 0 n (bytes "DueDateTypeCode")) (keep (is_named D "ApplicableTradeTax") cs))
  unfolding reading_of terms_of after act own means_of
  bt8_first =
      walk_code L D (blank X) cs refl
      ∙ ap (means_of L D) (first_lane L D trade_tax (own_of trade_tax tt) (λ (s : VatState X). s.first) (λ n. kid_text D 0 n (bytes "DueDateTypeCode")) (λ s n. code_next L D (s trade_tax) n) (blank X) cs)

  -- BT-81 is the first TypeCode of a payment means, even blank
  pub bt81_first : (reading_of L D cs).terms.bt81 ≡ first_given (λ c. some (own_text D 0 c)) (keep (is_named D "TypeCode") (parts_in D cs))
  unfolding reading_of terms_of after act own payment_means_of parts_in payment_means_in
  bt81_first =
      first_lane L D payment_means (own_of payment_means tt) (λ (s : Payment X). s.code) (λ n. first_given (λ c. cond (is_named D "TypeCode" c) (some (own_text D 0 c)) none) (D.kids n)) (λ s n. paid_code L D (s payment_means) n) (blank X) cs
      ∙ first_flat D.kids (λ c. cond (is_named D "TypeCode" c) (some (own_text D 0 c)) none) (keep (is_named D "SpecifiedTradeSettlementPaymentMeans") cs)
      ∙ first_keep (is_named D "TypeCode") (λ c. some (own_text D 0 c)) (parts_in D cs)

  -- BT-82 is the first Information that is not blank
  pub bt82_first : (reading_of L D cs).terms.bt82 ≡ first_given (text_in D 0) (keep (is_named D "Information") (parts_in D cs))
  unfolding reading_of terms_of after act own payment_means_of parts_in payment_means_in
  bt82_first =
      first_lane L D payment_means (own_of payment_means tt) (λ (s : Payment X). s.text) (λ n. first_given (λ c. cond (is_named D "Information" c) (text_in D 0 c) none) (D.kids n)) (λ s n. paid_text L D (s payment_means) n) (blank X) cs
      ∙ first_flat D.kids (λ c. cond (is_named D "Information" c) (text_in D 0 c) none) (keep (is_named D "SpecifiedTradeSettlementPaymentMeans") cs)
      ∙ first_keep (is_named D "Information") (text_in D 0) (parts_in D cs)

  -- BG-16 is there with a payment means, a payment reference, a mandate or a creditor identifier
  pub paid_where : (reading_of L D cs).terms.paid ≡
      not (is_none (last_named D "SpecifiedTradeSettlementPaymentMeans" cs)) || (not (is_none (last_named D "PaymentReference" cs)) ||
      (not (is_none (maybe none (λ n. kid_text D 0 n (bytes "DirectDebitMandateID")) (last_named D "SpecifiedTradePaymentTerms" cs))) || not (is_none (maybe none (λ n. text_in D 0 n) (last_named D "CreditorReferenceID" cs)))))
  unfolding reading_of terms_of after
  paid_where = rw (walk_met L D (blank X) cs, reference_last L D cs, none_some (text_in D 0) (last_named D "PaymentReference" cs), mandate_last L D cs, creditor_last L D cs)
