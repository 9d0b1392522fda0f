-- The reading does not look at places: it goes along with every map of documents.
use mathlib.Core.Path.{◌≡◌, refl, sym, ap, ap₂, ◌∙◌, fun_ext}
use mathlib.Core.Bool.{Bool, true, false}
use mathlib.Core.List.{List, [], ◌∷◌, ◌++◌, foldl, map}
use mathlib.Core.Option
use mathlib.Core.Option.{Option, none, some}
use Prim.Native.Nat.{ℕ, Ordering}
use lib.IntN.{ℤ}
use Rattle.text.specs.Answer.{Answer}
use Rattle.text.specs.Utf8.{bytes}
use Rattle.codes.specs.declared.rules.Rule.{Rule}
use Rattle.names.specs.declared.message.Message.{Message}
use Rattle.names.specs.declared.path.Path.{Path}
use Rattle.report.specs.Rows.{Entry, Transfer, AllowanceCharge, Unmapped, map_entry, map_transfer, map_vat, map_allowance_charge, map_preceding, map_held, map_unmapped}
use Rattle.settlement.specs.Document.{Doc, maybe, or}
use Rattle.settlement.specs.Shapes.{Means, unset, card, debit, transfers, Payment, VatState, Counts, Of, State, blank, Act, Currencies}
use Rattle.settlement.specs.Values.{Lent, Site, entry, trim_in, filled, text_in, own_text, text_bytes, first, kid, kid_text, attribute, missing, answered, parsed, in_currency, amount_from, amount_of, amount, required_amount, required_code, percent_of, percent, not_vat, date_from, other_spelling, date_in, date}
use Rattle.settlement.specs.Tax.{TaxPaths, GroupTerms, point_date, fresh_code, again_code, point_code, trade_tax_of, category_in, category_of, indicated, indicator, is_charge, allowance_charge_of, allowance_or_charge, logistics_read, logistics_left, logistics}
use Rattle.settlement.specs.Payments.{Part, type_code, information, financial_card, debtor_account, creditor_account, institution, unknown, Paying, part_of, not_held, with_means, first_means, account_of, joined, lost, creditor, provider_of, part, paying, paying_start, paid, payment_means_of}
use Rattle.settlement.specs.Summation.{Sum, required, allowance_total, charge_total, tax_total, rounding, prepaid, unread, Summing, sum_of, is_currency, with_vat, tax_in, tax_amount, tax_total_of, summand, summing, summed, totals}
use Rattle.settlement.specs.Walk.{said, placed, insert, insert_all}
use Rattle.settlement.specs.Settlement.{Debit, identifier_of, payee_of, quiet, period_of, payment_terms_of, preceding_of, own, kind_of, so_far, unseen, seen, act, step, says_of, holds_of, strays_of, besides, debited, debit_of, late_of, terms_of, unmapped_key, unmapped_order, after, reading_of, reading}
use Rattle.settlement.specs.Kinds.{Kind, creditor_reference, payment_reference, tax_currency, invoice_currency, payee, payment_means, trade_tax, period, allowance_charge, logistics_charge, payment_terms, summation, preceding_invoice, accounting, other, same_kind, home}
use Rattle.settlement.specs.Shown.{map_identifier, map_payee, map_payment_terms, map_of, map_terms, map_reading, map_means, map_payment, map_vat_state, map_state, map_act, map_currencies}
use Rattle.settlement.proofs.Maps.{cond_map, maybe_map, or_else_map, or_map, none_map, map-append, map_says, map_both, both_0, both_1, both_pair, both_maybe, says_0, says_1, says_pair, says_maybe, says_cond, option_maybe, option_cond, entries_cond, entries_maybe, act_cond, unmapped_map, charge_map, provided_map, transfers_map, map_paying, map_summing, summing_cond}

-- a map of documents: of their elements and of their texts
pub record Hom {N M X Y : Type 0} (D : Doc N X) (E : Doc M Y) (h : N → M) (v : X → Y) : Type 0 where
  pub name : (n : N) → E.name (h n) ≡ v (D.name n)
  pub text : (n : N) → E.text (h n) ≡ Option.map v (D.text n)
  pub attr : (n : N) (a : List ℕ) → E.attr (h n) a ≡ Option.map v (D.attr n a)
  pub kids : (n : N) → E.kids (h n) ≡ map h (D.kids n)
  pub bytes : (x : X) → E.bytes (v x) ≡ D.bytes x
  pub cut : (x : X) (a b : ℕ) → E.cut (v x) a b ≡ v (D.cut x a b)
  pub empty : E.empty ≡ v D.empty

ruleset maps = (maybe_map, option_maybe, option_cond, says_maybe, says_cond, says_pair, says_0, says_1, entries_maybe, entries_cond, unmapped_map, map-append, summing_cond, act_cond, or_else_map, transfers_map)

insert_map : {A B : Type 0} (c : A → A → Ordering) (d : B → B → Ordering) (f : A → B) (e : (a b : A) → d (f a) (f b) ≡ c a b) (u : A) (l : List A) → map f (insert c u l) ≡ insert d (f u) (map f l)
unfolding insert
insert_map c d f e u [] = refl
insert_map {B = B} c d f e u (w ∷ l) = rw (e u w) (go (c u w) (insert_map c d f e u l))
  where
    go : (o : Ordering) {r : List B} → map f (insert c u l) ≡ r → map f (placed c o u w l (insert c u l)) ≡ placed d o (f u) (f w) (map f l) r
    go Ordering.lt h = refl
    go Ordering.eq h = refl
    go Ordering.gt h = ap (λ (t : List B). f w ∷ t) h

insert_all_map : {A B : Type 0} (c : A → A → Ordering) (d : B → B → Ordering) (f : A → B) (e : (a b : A) → d (f a) (f b) ≡ c a b) (l us : List A) → map f (insert_all c l us) ≡ insert_all d (map f l) (map f us)
unfolding insert_all
insert_all_map c d f e l [] = refl
insert_all_map {B = B} c d f e l (u ∷ us) = insert_all_map c d f e (insert c u l) us ∙ ap (λ (t : List B). insert_all d t (map f us)) (insert_map c d f e u l)

module _ {N M X Y : Type 0} (L : Lent) (D : Doc N X) (E : Doc M Y) (h : N → M) (v : X → Y) (H : Hom D E h v) where
  entry_n : (m : Message) (s : Site) (o : Option X) → map_entry v (entry m s o) ≡ entry m s (Option.map v o)
  unfolding entry map_entry
  entry_n m s o = refl

  trim_in_n : (mode : ℕ) (x : X) → trim_in E mode (v x) ≡ v (trim_in D mode x)
  unfolding trim_in
  trim_in_n mode x = simp (H.bytes, H.cut)

  filled_n : (mode : ℕ) (x : X) → filled E mode (v x) ≡ Option.map v (filled D mode x)
  unfolding filled
  filled_n mode x = simp (maps, trim_in_n, H.bytes)

  text_in_n : (mode : ℕ) (n : N) → text_in E mode (h n) ≡ Option.map v (text_in D mode n)
  unfolding text_in
  text_in_n mode n = simp (maps, H.text, filled_n)

  own_text_n : (mode : ℕ) (n : N) → own_text E mode (h n) ≡ v (own_text D mode n)
  unfolding own_text
  own_text_n mode n = simp (text_in_n, H.empty, or_map v)

  first_n : (w : List ℕ) (cs : List N) → first E w (map h cs) ≡ Option.map h (first D w cs)
  unfolding first
  first_n w [] = refl
  first_n w (c ∷ cs) = rw (first_n w cs) (simp (maps, H.name, H.bytes))

  kid_n : (n : N) (w : List ℕ) → kid E (h n) w ≡ Option.map h (kid D n w)
  unfolding kid
  kid_n n w = simp (H.kids, first_n)

  kid_text_n : (mode : ℕ) (n : N) (w : List ℕ) → kid_text E mode (h n) w ≡ Option.map v (kid_text D mode n w)
  unfolding kid_text
  kid_text_n mode n w = simp (maps, kid_n, text_in_n)

  attribute_n : (n : N) (a : List ℕ) → attribute E (h n) a ≡ Option.map v (attribute D n a)
  unfolding attribute
  attribute_n n a = simp (maps, H.attr, filled_n)

  missing_n : (r : Rule) (s : Site) → missing L.rules r s ≡ map (map_entry v) (missing L.rules r s)
  unfolding missing
  missing_n r s = simp (maps, entry_n)

  text_bytes_n : (n : N) → text_bytes E (h n) ≡ text_bytes D n
  unfolding text_bytes
  text_bytes_n n = simp (maps, H.text, H.bytes)

  answered_n : {A : Type 0} (m : ℕ → Message) (s : Site) (e : N) (a : Answer A) → answered L.mode E m s (h e) a ≡ map_says v (answered L.mode D m s e a)
  unfolding answered
  answered_n m s e a = simp (maps, entry_n, own_text_n)

  parsed_n : (s : Site) (e : N) → parsed L.mode E s (h e) ≡ map_says v (parsed L.mode D s e)
  unfolding parsed
  parsed_n s e = simp (text_bytes_n, answered_n)

  in_currency_n : (s : Site) (e : N) (c : X) → in_currency L.mode L.currency E s (h e) (v c) ≡ map_says v (in_currency L.mode L.currency D s e c)
  unfolding in_currency
  in_currency_n s e c = simp (maps, H.bytes, parsed_n, entry_n)

  amount_from_n : (s : Site) (e : N) → amount_from L.mode L.currency E s (h e) ≡ map_says v (amount_from L.mode L.currency D s e)
  unfolding amount_from
  amount_from_n s e = simp (maps, attribute_n, parsed_n, in_currency_n)

  amount_of_n : (s : Site) (e : N) → amount_of L.mode L.currency E s (h e) ≡ map_says v (amount_of L.mode L.currency D s e)
  unfolding amount_of
  amount_of_n s e = simp (maps, text_in_n, amount_from_n)

  amount_n : (s : Site) (n : N) (w : List ℕ) → amount L.mode L.currency E s (h n) w ≡ map_says v (amount L.mode L.currency D s n w)
  unfolding amount
  amount_n s n w = simp (maps, kid_n, amount_of_n)

  required_amount_n : (r : Rule) (p : Path) (s : Site) (n : N) (w : List ℕ) → required_amount L E r p s (h n) w ≡ map_says v (required_amount L D r p s n w)
  unfolding required_amount
  required_amount_n r p s n w = simp (maps, kid_text_n, amount_n, missing_n)

  required_code_n : (r : Rule) (s : Site) (n : N) (w : List ℕ) → required_code L.rules E r s (h n) w ≡ map_both v v (required_code L.rules D r s n w)
  unfolding required_code
  required_code_n r s n w = simp (maps, kid_text_n, H.empty, missing_n, both_maybe v v, both_pair v v)

  percent_of_n : (s : Site) (e : N) → percent_of L.mode E s (h e) ≡ map_says v (percent_of L.mode D s e)
  unfolding percent_of
  percent_of_n s e = simp (maps, text_in_n, text_bytes_n, answered_n)

  percent_n : (s : Site) (n : N) (w : List ℕ) → percent L.mode E s (h n) w ≡ map_says v (percent L.mode D s n w)
  unfolding percent
  percent_n s n w = simp (maps, kid_n, percent_of_n)

  not_vat_n : (s : Site) (n : N) → not_vat E s (h n) ≡ map (map_entry v) (not_vat D s n)
  unfolding not_vat
  not_vat_n s n = simp (maps, kid_text_n, H.bytes, entry_n)

  date_from_n : (p : Path) (e : N) → date_from L.mode E p (h e) ≡ map_says v (date_from L.mode D p e)
  unfolding date_from
  date_from_n p e = simp (maps, H.attr, H.bytes, text_bytes_n, answered_n, own_text_n, entry_n)

  other_spelling_n : (p : Path) (e : N) → other_spelling L.mode E p (h e) ≡ map_says v (other_spelling L.mode D p e)
  unfolding other_spelling
  other_spelling_n p e = simp (maps, date_from_n, own_text_n, entry_n)

  date_in_n : (b : Bool) (p q : Path) (e : N) → date_in L.mode E b p q (h e) ≡ map_says v (date_in L.mode D b p q e)
  unfolding date_in
  date_in_n b p q e = simp (maps, kid_n, date_from_n, other_spelling_n)

  date_n : (b : Bool) (p q : Path) (n : N) (w : List ℕ) → date L.mode E b p q (h n) w ≡ map_says v (date L.mode D b p q n w)
  unfolding date
  date_n b p q n w = simp (maps, kid_n, date_in_n)

  -- VAT, allowances and charges
  point_date_n : (s : VatState X) (n : N) → point_date L.mode E (map_vat_state v s) (h n) ≡ map_says v (point_date L.mode D s n)
  unfolding point_date map_vat_state
  point_date_n s n = simp (maps, date_n)

  fresh_code_n : (s : VatState X) (x : X) (a : Answer ℕ) → fresh_code E (map_vat_state v s) (v x) a ≡ map_both v (map_vat_state v) (fresh_code D s x a)
  unfolding fresh_code map_vat_state
  fresh_code_n s x a = simp (maps, entry_n, both_pair v (map_vat_state v))

  again_code_n : (s : VatState X) (x f : X) → again_code E (map_vat_state v s) (v x) (v f) ≡ map_both v (map_vat_state v) (again_code D s x f)
  unfolding again_code
  again_code_n s x f = simp (maps, entry_n, both_pair v (map_vat_state v), H.bytes)

  point_code_n : (s : VatState X) (n : N) → point_code E (map_vat_state v s) (h n) ≡ map_both v (map_vat_state v) (point_code D s n)
  unfolding point_code
  point_code_n s n = simp (maps, kid_text_n, first_code, H.bytes, fresh_code_n, again_code_n, both_maybe v (map_vat_state v), both_pair v (map_vat_state v))
    where
      first_code : (map_vat_state v s).first ≡ Option.map v s.first
      first_code = unfold map_vat_state in refl

  trade_tax_of_n : (s : VatState X) (n : N) → trade_tax_of L E (map_vat_state v s) (h n) ≡ map_act v (map_vat_state v) (trade_tax_of L D s n)
  unfolding trade_tax_of map_act map_vat_state map_held map_vat
  trade_tax_of_n s n =
      simp (maps, point_date_n, point_code_n, required_amount_n, required_code_n, percent_n, not_vat_n, kid_text_n, both_0 v v, both_1 v v, both_0 v (map_vat_state v), both_1 v (map_vat_state v))

  abbrev in_front : X × Option (ℤ × ℕ) → Y × Option (ℤ × ℕ)
  in_front p = (v p.0, p.1)

  category_in_n : (p : TaxPaths) (t : GroupTerms) (g : ℕ) (n : N) → category_in L E p t g (h n) ≡ map_both v in_front (category_in L D p t g n)
  unfolding category_in
  category_in_n p t g n = simp (maps, required_code_n, percent_n, not_vat_n, both_0 v v, both_1 v v, both_pair v in_front)

  category_of_n : (p : TaxPaths) (t : GroupTerms) (g : ℕ) (n : N) (w : List ℕ) → category_of L E p t g (h n) w ≡ map_both v in_front (category_of L D p t g n w)
  unfolding category_of
  category_of_n p t g n w = simp (maps, kid_n, H.empty, missing_n, category_in_n, both_maybe v in_front, both_pair v in_front)

  indicated_n : (i : N) (a : Answer Bool) → indicated E (h i) a ≡ map_says v (indicated D i a)
  unfolding indicated
  indicated_n i a = simp (maps, own_text_n, entry_n)

  indicator_n : (n : N) → indicator E (h n) ≡ Option.map h (indicator D n)
  unfolding indicator
  indicator_n n = simp (maps, kid_n)

  is_charge_n : (n : N) → is_charge E (h n) ≡ map_says v (is_charge D n)
  unfolding is_charge
  is_charge_n n = simp (maps, indicator_n, own_text_n, H.bytes, indicated_n, entry_n)

  allowance_charge_of_n : (b : Bool) (g : ℕ) (n : N) → allowance_charge_of L E b g (h n) ≡ map_both v (map_held v) (allowance_charge_of L D b g n)
  unfolding allowance_charge_of
  allowance_charge_of_n b g n =
      simp (maps, category_of_n, required_amount_n, amount_n, percent_n, kid_text_n, both_0 v in_front, both_1 v in_front, both_pair v (map_held v), charge_map v, reduction_map)
    where
      reduction_map : (a : AllowanceCharge X) → map_allowance_charge v a ≡ record { amount = a.amount; base = a.base; percentage = a.percentage; category = v a.category; rate = a.rate; reason = Option.map v a.reason; code = Option.map v a.code }
      reduction_map a = unfold map_allowance_charge in refl

  allowance_or_charge_n : (s : Counts) (n : N) → allowance_or_charge L E s (h n) ≡ map_act v (λ t. t) (allowance_or_charge L D s n)
  unfolding allowance_or_charge map_act
  allowance_or_charge_n s n = simp (maps, is_charge_n, allowance_charge_of_n, both_0 v (map_held v), both_1 v (map_held v))

  logistics_n : (s : Counts) (n : N) → logistics L E s (h n) ≡ map_act v (λ t. t) (logistics L D s n)
  unfolding logistics logistics_read logistics_left map_act map_held map_allowance_charge
  logistics_n s n = simp (maps, category_of_n, required_amount_n, kid_text_n, entry_n, both_0 v in_front, both_1 v in_front)

  -- payment means
  not_held_n : (m : Message) (p : Path) (s : Paying X) → not_held m p (map_paying v s) ≡ map_paying v (not_held m p s)
  unfolding not_held map_paying
  not_held_n m p s = simp (maps, entry_n)

  with_means_n : (m : Means X) (s : Paying X) → with_means (map_means v m) (map_paying v s) ≡ map_paying v (with_means m s)
  unfolding with_means map_paying map_payment
  with_means_n m s = refl

  first_means_n : (k : Means X) (m : Message) (p : Path) (new : Means X) (s : Paying X) → first_means (map_means v k) m p (map_means v new) (map_paying v s) ≡ map_paying v (first_means k m p new s)
  unfolding first_means map_means
  first_means_n unset m p new s = with_means_n new s
  first_means_n (card a b) m p new s = not_held_n m p s
  first_means_n (debit a) m p new s = not_held_n m p s
  first_means_n transfers m p new s = not_held_n m p s

  account_of_n : (c : N) → account_of E (h c) ≡ Option.map v (account_of D c)
  unfolding account_of
  account_of_n c = simp (maps, kid_text_n)

  joined_n : (c : N) (s : Paying X) → joined E (h c) (map_paying v s) ≡ map_paying v (joined D c s)
  unfolding joined map_paying map_payment map_means map_transfer
  joined_n c s = simp (maps, account_of_n, kid_text_n)

  lost_n : (s : Paying X) → lost (map_paying v s) ≡ map_paying v (lost s)
  unfolding lost map_paying
  lost_n s = not_held_n Message.AccountBesideOther Path.PaymentMeansCreditorAccount (record { payment = s.payment; last = false; rows = s.rows; says = s.says; strays = s.strays })

  creditor_n : (k : Means X) (c : N) (s : Paying X) → creditor E (map_means v k) (h c) (map_paying v s) ≡ map_paying v (creditor D k c s)
  unfolding creditor map_means
  creditor_n unset c s = joined_n c s
  creditor_n transfers c s = joined_n c s
  creditor_n (card a b) c s = lost_n s
  creditor_n (debit a) c s = lost_n s

  provider_of_n : (b : Bool) (l : List (Transfer X)) (o : Option X) (s : Paying X) → provider_of b (map (map_transfer v) l) (Option.map v o) (map_paying v s) ≡ map_paying v (provider_of b l o s)
  unfolding provider_of map_paying
  provider_of_n true (t ∷ l) o s = rw (provided_map v o t l)
  provider_of_n true [] none s = refl
  provider_of_n true [] (some x) s = not_held_n Message.ProviderWithoutAccount Path.PaymentMeansCreditorInstitution s
  provider_of_n false l none s = refl
  provider_of_n false l (some x) s = not_held_n Message.ProviderWithoutAccount Path.PaymentMeansCreditorInstitution s

  part_n : (p : Part) (s : Paying X) (c : N) → part E p (map_paying v s) (h c) ≡ map_paying v (part D p s c)
  unfolding part map_paying map_payment map_means
  part_n type_code s c = simp (own_text_n, ← or_else_map)
  part_n information s c = simp (maps, text_in_n)
  part_n financial_card s c =
      simp kid_text_n (first_means_n s.payment.means Message.CardBesideOther Path.PaymentMeansFinancialCard (card (kid_text D 0 c (bytes "ID")) (kid_text D 0 c (bytes "CardholderName"))) s)
  part_n debtor_account s c = simp account_of_n (first_means_n s.payment.means Message.DebitedAccountBesideOther Path.PaymentMeansDebtorAccount (debit (account_of D c)) s)
  part_n creditor_account s c = creditor_n s.payment.means c s
  part_n institution s c = simp kid_text_n (provider_of_n s.last s.rows (kid_text D 0 c (bytes "BICID")) s)
  part_n unknown s c = simp (maps, H.name)

  part_of_n : (c : N) → part_of E (h c) ≡ part_of D c
  unfolding part_of
  part_of_n c = simp (H.name, H.bytes)

  paying_n : (s : Paying X) (c : N) → paying E (map_paying v s) (h c) ≡ map_paying v (paying D s c)
  unfolding paying
  paying_n s c = rw (part_of_n c) (part_n (part_of D c) s c)

  foldl_n : {S T : Type 0} (f : S → N → S) (g : T → M → T) (m : S → T) → ((s : S) (c : N) → g (m s) (h c) ≡ m (f s c)) → (s : S) (cs : List N) → foldl g (m s) (map h cs) ≡ m (foldl f s cs)
  foldl_n f g m e s [] = refl
  foldl_n {T = T} f g m e s (c ∷ cs) = ap (λ (t : T). foldl g t (map h cs)) (e s c) ∙ foldl_n f g m e (f s c) cs

  paid_n : (p : Payment X) (n : N) → paid E (map_payment v p) (h n) ≡ map_paying v (paid D p n)
  unfolding paid paying_start map_paying map_payment
  paid_n p n = rw (H.kids n) (foldl_n (paying D) (paying E) (map_paying v) paying_n (paying_start p) (D.kids n))

  payment_means_of_n : (p : Payment X) (n : N) → payment_means_of E (map_payment v p) (h n) ≡ map_act v (map_payment v) (payment_means_of D p n)
  unfolding payment_means_of map_act map_paying
  payment_means_of_n p n = simp (maps, paid_n)

  -- the summation
  sum_of_n : (c : N) → sum_of E (h c) ≡ sum_of D c
  unfolding sum_of
  sum_of_n c = simp (H.name, H.bytes)

  is_currency_n : (o : Option X) (c : X) → is_currency E (Option.map v o) (v c) ≡ is_currency D o c
  unfolding is_currency
  is_currency_n o c = simp (maps, H.bytes)

  tax_in_n : (cur : Currencies X) (a : Option ℤ) (es : List (Entry X)) (s : Summing X) (c : X) → tax_in E (map_currencies v cur) a (map (map_entry v) es) (map_summing v s) (v c) ≡ map_summing v (tax_in D cur a es s c)
  unfolding tax_in with_vat map_currencies map_summing
  tax_in_n cur a es s c = simp (maps, is_currency_n, entry_n)

  tax_amount_n : (c : N) → tax_amount L.mode E (h c) ≡ map_says v (tax_amount L.mode D c)
  unfolding tax_amount
  tax_amount_n c = simp (text_bytes_n, answered_n)

  with_vat_n : (a b : Option ℤ) (es : List (Entry X)) (s : Summing X) → with_vat a b (map (map_entry v) es) (map_summing v s) ≡ map_summing v (with_vat a b es s)
  unfolding with_vat map_summing
  with_vat_n a b es s = simp maps

  summing_maybe : {A : Type 0} (b : Summing X) (f : A → Summing X) (o : Option A) → map_summing v (maybe b f o) ≡ maybe (map_summing v b) (λ a. map_summing v (f a)) o
  summing_maybe b f none = refl
  summing_maybe b f (some a) = refl

  tax_total_of_n : (cur : Currencies X) (s : Summing X) (c : N) → tax_total_of L E (map_currencies v cur) (map_summing v s) (h c) ≡ map_summing v (tax_total_of L D cur s c)
  unfolding tax_total_of
  tax_total_of_n cur s c = simp (maps, tax_amount_n, attribute_n, summing_maybe, with_vat_n, tax_in_n, accounting_n)
    where
      accounting_n : (map_summing v s).vat_accounting ≡ s.vat_accounting
      accounting_n = unfold map_summing in refl

  summand_n : (k : Sum) (cur : Currencies X) (n : N) (s : Summing X) (c : N) → summand L E k (map_currencies v cur) (h n) (map_summing v s) (h c) ≡ map_summing v (summand L D k cur n s c)
  unfolding summand map_summing
  summand_n required cur n s c = refl
  summand_n allowance_total cur n s c = simp (maps, amount_n)
  summand_n charge_total cur n s c = simp (maps, amount_n)
  summand_n tax_total cur n s c = tax_total_of_n cur s c
  summand_n rounding cur n s c = simp (maps, amount_n)
  summand_n prepaid cur n s c = simp (maps, amount_n)
  summand_n unread cur n s c = simp (maps, H.name)

  summing_n : (cur : Currencies X) (n : N) (s : Summing X) (c : N) → summing L E (map_currencies v cur) (h n) (map_summing v s) (h c) ≡ map_summing v (summing L D cur n s c)
  unfolding summing
  summing_n cur n s c = rw (sum_of_n c) (summand_n (sum_of D c) cur n s c)

  summed_n : (cur : Currencies X) (n : N) → summed L E (map_currencies v cur) (h n) ≡ map_summing v (summed L D cur n)
  unfolding summed map_summing
  summed_n cur n =
      rw (H.kids n)
      (foldl_n (summing L D cur n) (summing L E (map_currencies v cur) (h n)) (map_summing v) (summing_n cur n) (record { allowance = none; charge = none; vat = none; vat_accounting = none; rounded = none; paid = none; says = []; strays = [] }) (D.kids n))

  totals_n : (cur : Currencies X) (n : N) → totals L E (map_currencies v cur) (h n) ≡ map_act v (λ t. t) (totals L D cur n)
  unfolding totals map_act map_summing
  totals_n cur n = simp (maps, summed_n, required_amount_n)

  -- the other children
  identifier_of_n : (n : N) → identifier_of E (h n) ≡ map_identifier v (identifier_of D n)
  unfolding identifier_of map_identifier
  identifier_of_n n = simp (maps, H.attr, own_text_n)

  payee_of_n : (n : N) → payee_of E (h n) ≡ map_payee v (payee_of D n)
  unfolding payee_of map_payee
  payee_of_n n = simp (maps, kid_n, kid_text_n, identifier_of_n)

  period_of_n : (n : N) → period_of L.mode E (h n) ≡ map_act v (λ t. t) (period_of L.mode D n)
  unfolding period_of map_act
  period_of_n n = simp (maps, date_n)

  payment_terms_of_n : (n : N) → payment_terms_of L.mode E (h n) ≡ map_act v (map_payment_terms v) (payment_terms_of L.mode D n)
  unfolding payment_terms_of map_act map_payment_terms
  payment_terms_of_n n = simp (maps, date_n, kid_n, H.text, kid_text_n)

  preceding_of_n : (g : ℕ) (n : N) → preceding_of L E g (h n) ≡ map_act v (λ t. t) (preceding_of L D g n)
  unfolding preceding_of map_act map_held map_preceding
  preceding_of_n g n = simp (maps, required_code_n, date_n, both_0 v v, both_1 v v)

  own_n : (l : Kind) (b : Bool) (s : Of X l) (cur : Currencies X) (n : N) → own L E l b (map_of v l s) (map_currencies v cur) (h n) ≡ map_act v (map_of v l) (own L D l b s cur n)
  unfolding own quiet map_act
  own_n creditor_reference b s cur n = simp text_in_n
  own_n payment_reference b s cur n = simp text_in_n
  own_n tax_currency b s cur n = simp own_text_n
  own_n invoice_currency b s cur n = simp own_text_n
  own_n payee b s cur n = simp payee_of_n
  own_n payment_means b s cur n = payment_means_of_n s n
  own_n trade_tax b s cur n = trade_tax_of_n s n
  own_n period b s cur n = period_of_n n
  own_n allowance_charge true s cur n = logistics_n s n
  own_n allowance_charge false s cur n = allowance_or_charge_n s n
  own_n logistics_charge b s cur n = refl
  own_n payment_terms b s cur n = payment_terms_of_n n
  own_n summation b s cur n = totals_n cur n
  own_n preceding_invoice b s cur n = preceding_of_n s n
  own_n accounting b s cur n = simp kid_text_n
  own_n other b s cur n = simp (maps, H.name)

  -- the walk
  kind_of_n : (n : N) → kind_of E (h n) ≡ kind_of D n
  unfolding kind_of
  kind_of_n n = simp (H.name, H.bytes)

  seen_n : (k : Kind) (s : State X) → seen k (map_state v s) ≡ map_currencies v (seen k s)
  unfolding seen so_far unseen map_currencies
  seen_n k s = sym (cond_map (map_currencies v) (same_kind k summation) (so_far s) (unseen))

  act_n : (l : Kind) (s : State X) (n : N) → act L E l (map_state v s) (h n) ≡ map_act v (map_of v l) (act L D l s n)
  unfolding act
  act_n l s n = rw (kind_of_n n, seen_n (kind_of D n) s) (own_n l (same_kind (kind_of D n) logistics_charge) (s l) (seen (kind_of D n) s) n)

  step_n : (s : State X) (n : N) → step L E (map_state v s) (h n) ≡ map_state v (step L D s n)
  unfolding step map_act
  step_n s n = fun_ext (λ l. rw (kind_of_n n, act_n l s n) (sym (cond_map (map_of v l) (same_kind l (home (kind_of D n))) (act L D l s n).next (s l))))

  says_of_n : (s : State X) (n : N) → says_of L E (map_state v s) (h n) ≡ map (map_entry v) (says_of L D s n)
  unfolding says_of map_act
  says_of_n s n =
      ap (λ (k : Kind). (act L E (home k) (map_state v s) (h n)).says) (kind_of_n n) ∙ ap (λ (a : Act Y (Of Y (home (kind_of D n)))). a.says) (act_n (home (kind_of D n)) s n)

  holds_of_n : (s : State X) (n : N) → holds_of L E (map_state v s) (h n) ≡ map (map_held v) (holds_of L D s n)
  unfolding holds_of map_act
  holds_of_n s n =
      ap (λ (k : Kind). (act L E (home k) (map_state v s) (h n)).holds) (kind_of_n n) ∙ ap (λ (a : Act Y (Of Y (home (kind_of D n)))). a.holds) (act_n (home (kind_of D n)) s n)

  strays_of_n : (s : State X) (n : N) → strays_of L E (map_state v s) (h n) ≡ map (map_unmapped v) (strays_of L D s n)
  unfolding strays_of map_act
  strays_of_n s n =
      ap (λ (k : Kind). (act L E (home k) (map_state v s) (h n)).strays) (kind_of_n n) ∙ ap (λ (a : Act Y (Of Y (home (kind_of D n)))). a.strays) (act_n (home (kind_of D n)) s n)

  said_n : {A B : Type 0} (f : State X → N → List A) (g : State Y → M → List B) (m : A → B) → ((s : State X) (c : N) → g (map_state v s) (h c) ≡ map m (f s c)) → (s : State X) (cs : List N) → said (step L E) g (map_state v s) (map h cs) ≡ map m (said (step L D) f s cs)
  unfolding said
  said_n f g m e s [] = refl
  said_n {B = B} f g m e s (c ∷ cs) =
      ap₂ (λ (a b : List B). a ++ b) (e s c) (ap (λ (t : State Y). said (step L E) g t (map h cs)) (step_n s c) ∙ said_n f g m e (step L D s c) cs)
      ∙ sym (map-append m (f s c) (said (step L D) f (step L D s c) cs))

  blank_n : (k : Kind) → map_state v (blank X) k ≡ blank Y k
  unfolding map_payment map_means map_vat_state map_payment_terms
  blank_n creditor_reference = refl
  blank_n payment_reference = refl
  blank_n tax_currency = refl
  blank_n invoice_currency = refl
  blank_n payee = refl
  blank_n payment_means = refl
  blank_n trade_tax = refl
  blank_n period = refl
  blank_n allowance_charge = refl
  blank_n logistics_charge = refl
  blank_n payment_terms = refl
  blank_n summation = refl
  blank_n preceding_invoice = refl
  blank_n accounting = refl
  blank_n other = refl

  after_n : (cs : List N) → after L E (map h cs) ≡ map_state v (after L D cs)
  unfolding after
  after_n cs = ap (λ (s : State Y). foldl (step L E) s (map h cs)) (sym (fun_ext blank_n)) ∙ foldl_n (step L D) (step L E) (map_state v) step_n (blank X) cs

  -- the end
  unfoldable map_debit : Debit X → Debit Y
  map_debit d = record { means = map_means v d.means; mandate = Option.map v d.mandate; creditor = Option.map v d.creditor; says = map (map_entry v) d.says }

  debited_n : (k : Means X) (a c : Option X) → debited (map_means v k) (Option.map v a) (Option.map v c) ≡ map_debit (debited k a c)
  unfolding debited besides map_debit map_means entry map_entry
  debited_n unset none none = refl
  debited_n unset none (some c) = refl
  debited_n unset (some a) c = refl
  debited_n (debit d) a c = refl
  debited_n (card x y) none none = refl
  debited_n (card x y) none (some c) = refl
  debited_n (card x y) (some a) none = refl
  debited_n (card x y) (some a) (some c) = refl
  debited_n transfers none none = refl
  debited_n transfers none (some c) = refl
  debited_n transfers (some a) none = refl
  debited_n transfers (some a) (some c) = refl

  debit_of_n : (s : State X) → debit_of (map_state v s) ≡ map_debit (debit_of s)
  unfolding debit_of map_payment map_payment_terms
  debit_of_n s = debited_n (s payment_means).means (s payment_terms).mandate (s creditor_reference)

  late_of_n : (s : State X) → late_of L.rules (map_state v s) ≡ map (map_entry v) (late_of L.rules s)
  unfolding late_of map_debit
  late_of_n s = simp (maps, missing_n, debit_of_n)

  reference_n : (o : Option (Option X)) → or none (Option.map (Option.map v) o) ≡ Option.map v (or none o)
  reference_n none = refl
  reference_n (some o) = refl

  terms_of_n : (s : State X) → terms_of (map_state v s) ≡ map_terms v (terms_of s)
  unfolding terms_of map_terms map_payment map_vat_state map_payment_terms map_debit
  terms_of_n s = simp (debit_of_n, none_map, reference_n)

  order_n : (a b : Unmapped X) → unmapped_order E (map_unmapped v a) (map_unmapped v b) ≡ unmapped_order D a b
  unfolding unmapped_order unmapped_key map_unmapped
  order_n a b = simp H.bytes

  said_blank : {A B : Type 0} (f : State X → N → List A) (g : State Y → M → List B) (m : A → B) → ((s : State X) (c : N) → g (map_state v s) (h c) ≡ map m (f s c)) → (cs : List N) → said (step L E) g (blank Y) (map h cs) ≡ map m (said (step L D) f (blank X) cs)
  said_blank f g m e cs = ap (λ (s : State Y). said (step L E) g s (map h cs)) (sym (fun_ext blank_n)) ∙ said_n f g m e (blank X) cs

  reading_of_n : (cs : List N) → reading_of L E (map h cs) ≡ map_reading v (reading_of L D cs)
  unfolding reading_of map_reading
  reading_of_n cs =
      simp (
        after_n,
        terms_of_n,
        late_of_n,
        map-append,
        said_blank (holds_of L D) (holds_of L E) (map_held v) holds_of_n,
        said_blank (says_of L D) (says_of L E) (map_entry v) says_of_n,
        said_blank (strays_of L D) (strays_of L E) (map_unmapped v) strays_of_n,
        insert_all_map (unmapped_order D) (unmapped_order E) (map_unmapped v) order_n,
      )

  -- read, then map, is map, then read
  pub reading_n : (n : N) → reading L E (h n) ≡ map_reading v (reading L D n)
  unfolding reading
  reading_n n = rw (H.kids n) (reading_of_n (D.kids n))
