-- The parts of one payment means: the first card, debited account or account fixes the kind, and the accounts are the transfers (document 01, `read.rs`: Payment).
use mathlib.Core.Path.{◌≡◌, refl, sym, ap, ap₂, ◌∙◌}
use mathlib.Core.Bool.{Bool, true, false, cond, true≢false}
use mathlib.Core.List.{List, [], ◌∷◌, ◌++◌, append_assoc, foldl}
use mathlib.Core.Logic.{◌≢◌}
use mathlib.Core.Option.{Option, none, some}
use Prim.Native.String.{String}
use Rattle.text.specs.Order.{equal}
use Rattle.text.specs.Utf8.{bytes, encode}
use Rattle.report.specs.Rows.{Transfer}
use Rattle.names.specs.declared.message.Message.{Message}
use Rattle.names.specs.declared.path.Path.{Path}
use Rattle.settlement.specs.Document.{Doc, maybe, or_else}
use Rattle.settlement.specs.Kinds.{is_yes, meant}
use Rattle.settlement.specs.Shapes.{Means, unset, card, debit, transfers, Payment}
use Rattle.settlement.specs.Values.{kid_text}
use Rattle.settlement.specs.Payments.{Part, type_code, information, financial_card, debtor_account, creditor_account, institution, unknown, Part-discrete, parts, Paying, provided, part_of, not_held, with_means, first_means, account_of, joined, lost, creditor, provider_of, part, paying, paying_start, paid}
use Rattle.settlement.specs.Last.{is_named, last_that, last_named}
use Rattle.settlement.specs.Transfers.{or_means, are_transfers, is_account, fixes, fixed, until_account, provider_after, transfer_row, transfers_in}
use Rattle.settlement.proofs.Lanes.{is_yes_true}
use Rattle.settlement.proofs.Names.{Named, meant_test}

-- the name of a part
abbrev pub part_name : Part → String
part_name type_code = "TypeCode"
part_name information = "Information"
part_name financial_card = "ApplicableTradeSettlementFinancialCard"
part_name debtor_account = "PayerPartyDebtorFinancialAccount"
part_name creditor_account = "PayeePartyCreditorFinancialAccount"
part_name institution = "PayeeSpecifiedCreditorFinancialInstitution"
part_name unknown = ""

parts_named : Named unknown part_name parts
unfolding parts
parts_named = (refl, (refl, (refl, (refl, (refl, (refl, tt))))))

pub or_assoc : {X : Type 0} (a b c : Means X) → or_means (or_means a b) c ≡ or_means a (or_means b c)
or_assoc unset b c = refl
or_assoc (card x y) b c = refl
or_assoc (debit x) b c = refl
or_assoc transfers b c = refl

pub or_unset : {X : Type 0} (a : Means X) → or_means a unset ≡ a
or_unset unset = refl
or_unset (card x y) = refl
or_unset (debit x) = refl
or_unset transfers = refl

pub or_rest : {X : Type 0} (a b : Means X) → or_means a b ≡ unset → b ≡ unset
or_rest unset b e = e
or_rest (card x y) b e = absurd (true≢false cc)
or_rest (debit x) b e = absurd (true≢false cc)
or_rest transfers b e = absurd (true≢false cc)

read_part : (p : Part) → p ≢ unknown → meant unknown parts (bytes (part_name p)) ≡ p
unfolding meant parts equal bytes encode
read_part type_code h = refl
read_part information h = refl
read_part financial_card h = refl
read_part debtor_account h = refl
read_part creditor_account h = refl
read_part institution h = refl
read_part unknown h = absurd (h refl)

module _ {N X : Type 0} (D : Doc N X) where
  -- a part has its name
  pub part_test : (p : Part) → p ≢ unknown → (c : N) → is_named D (part_name p) c ≡ is_yes (Part-discrete (part_of D c) p)
  unfolding is_named part_of
  part_test p h c = sym (meant_test unknown part_name Part-discrete parts parts_named p (read_part p h) h (D.bytes (D.name c)))

  account_test : (c : N) → is_account D c ≡ is_yes (Part-discrete (part_of D c) creditor_account)
  unfolding is_account
  account_test c = part_test creditor_account (λ h. true≢false cc) c

  -- what a part fixes
  fixes_as : Part → N → Means X
  fixes_as p c =
      cond (is_yes (Part-discrete p financial_card)) (card (kid_text D 0 c (bytes "ID")) (kid_text D 0 c (bytes "CardholderName")))
      (cond (is_yes (Part-discrete p debtor_account)) (debit (account_of D c)) (cond (is_yes (Part-discrete p creditor_account)) transfers unset))

  fixes-as : (c : N) → fixes D c ≡ fixes_as (part_of D c) c
  unfolding fixes fixes_as
  fixes-as c = rw (part_test financial_card (λ h. true≢false cc) c, part_test debtor_account (λ h. true≢false cc) c, account_test c)

  first-means : (m : Means X) (g : Message) (q : Path) (new : Means X) (s : Paying X) → s.payment.means ≡ m → (first_means m g q new s).payment.means ≡ or_means m new
  unfolding first_means with_means not_held
  first-means unset g q new s e = refl
  first-means (card a b) g q new s e = e
  first-means (debit a) g q new s e = e
  first-means transfers g q new s e = e

  creditor_means : (m : Means X) (c : N) (s : Paying X) → s.payment.means ≡ m → (creditor D m c s).payment.means ≡ or_means m transfers
  unfolding creditor joined lost not_held
  creditor_means unset c s e = refl
  creditor_means (card a b) c s e = e
  creditor_means (debit a) c s e = e
  creditor_means transfers c s e = refl

  pub provider_payment : (b : Bool) (l : List (Transfer X)) (o : Option X) (s : Paying X) → (provider_of b l o s).payment ≡ s.payment
  unfolding provider_of not_held
  provider_payment true [] none s = refl
  provider_payment true [] (some x) s = refl
  provider_payment true (t ∷ l) o s = refl
  provider_payment false l none s = refl
  provider_payment false l (some x) s = refl

  part_means : (p : Part) (s : Paying X) (c : N) → (part D p s c).payment.means ≡ or_means s.payment.means (fixes_as p c)
  unfolding part fixes_as
  part_means type_code s c = sym (or_unset s.payment.means)
  part_means information s c = sym (or_unset s.payment.means)
  part_means financial_card s c = first-means s.payment.means _ _ _ s refl
  part_means debtor_account s c = first-means s.payment.means _ _ _ s refl
  part_means creditor_account s c = creditor_means s.payment.means c s refl
  part_means institution s c = ap (λ (p : Payment X). p.means) (provider_payment s.last s.rows _ s) ∙ sym (or_unset s.payment.means)
  part_means unknown s c = sym (or_unset s.payment.means)

  paying_means : (s : Paying X) (c : N) → (paying D s c).payment.means ≡ or_means s.payment.means (fixes D c)
  unfolding paying
  paying_means s c = part_means (part_of D c) s c ∙ ap (or_means s.payment.means) (sym (fixes-as c))

  paying_as : (s : Paying X) (c : N) (p : Part) → part_of D c ≡ p → paying D s c ≡ part D p s c
  unfolding paying
  paying_as s c p e = ap (λ (q : Part). part D q s c) e

  -- the means after the parts
  fold_means : (s : Paying X) (cs : List N) → (foldl (paying D) s cs).payment.means ≡ or_means s.payment.means (fixed D cs)
  unfolding fixed
  fold_means s [] = sym (or_unset s.payment.means)
  fold_means s (c ∷ cs) = fold_means (paying D s c) cs ∙ ap (λ (m : Means X). or_means m (fixed D cs)) (paying_means s c) ∙ or_assoc s.payment.means (fixes D c) (fixed D cs)

  -- a part that is neither an account nor an institution leaves the rows alone
  record Kept (s q : Paying X) : Type 0 where
    pub last : q.last ≡ s.last
    pub rows : q.rows ≡ s.rows

  first_kept : (m : Means X) (g : Message) (q : Path) (new : Means X) (s : Paying X) → Kept s (first_means m g q new s)
  unfolding first_means with_means not_held
  first_kept unset g q new s = record { last = refl; rows = refl }
  first_kept (card a b) g q new s = record { last = refl; rows = refl }
  first_kept (debit a) g q new s = record { last = refl; rows = refl }
  first_kept transfers g q new s = record { last = refl; rows = refl }

  part_kept : (p : Part) (s : Paying X) (c : N) → is_yes (Part-discrete p creditor_account) ≡ false → is_yes (Part-discrete p institution) ≡ false → Kept s (part D p s c)
  unfolding part
  part_kept type_code s c a i = record { last = refl; rows = refl }
  part_kept information s c a i = record { last = refl; rows = refl }
  part_kept financial_card s c a i = first_kept s.payment.means _ _ _ s
  part_kept debtor_account s c a i = first_kept s.payment.means _ _ _ s
  part_kept creditor_account s c a i = absurd (true≢false a)
  part_kept institution s c a i = absurd (true≢false i)
  part_kept unknown s c a i = record { last = refl; rows = refl }

  -- a transfer with another provider
  with_provider : Transfer X → Option X → Transfer X
  with_provider t o = record { account = t.account; name = t.name; provider = o }

  -- the provider of the last institution before the next account, else the one there
  provider_from : Option X → List N → Option X
  provider_from o cs = maybe o (λ i. kid_text D 0 i (bytes "BICID")) (last_named D "PayeeSpecifiedCreditorFinancialInstitution" (until_account D cs))

  provider_next : (o : Option X) (c : N) (cs : List N) → is_account D c ≡ false → provider_from o (c ∷ cs) ≡ provider_from (cond (is_named D "PayeeSpecifiedCreditorFinancialInstitution" c) (kid_text D 0 c (bytes "BICID")) o) cs
  unfolding provider_from until_account last_named last_that
  provider_next o c cs e = rw e (go (is_named D "PayeeSpecifiedCreditorFinancialInstitution" c) (last_named D "PayeeSpecifiedCreditorFinancialInstitution" (until_account D cs)))
    where
      go : (b : Bool) (r : Option N) → maybe o (λ i. kid_text D 0 i (bytes "BICID")) (or_else r (cond b (some c) none)) ≡ maybe (cond b (kid_text D 0 c (bytes "BICID")) o) (λ i. kid_text D 0 i (bytes "BICID")) r
      go true none = refl
      go false none = refl
      go b (some i) = refl

  provider_last : (o : Option X) (c : N) (cs : List N) → is_account D c ≡ true → provider_from o (c ∷ cs) ≡ o
  unfolding provider_from until_account last_named last_that
  provider_last o c cs e = rw e

  -- an account is held, and is the last one so far
  record Open (s : Paying X) (pre : List (Transfer X)) (t : Transfer X) : Type 0 where
    pub means : s.payment.means ≡ transfers
    pub last : s.last ≡ true
    pub rows : s.rows ≡ pre ++ t ∷ []

  provided_behind : (o : Option X) (u : Transfer X) (l : List (Transfer X)) (t : Transfer X) → provided o u (l ++ t ∷ []) ≡ u ∷ (l ++ with_provider t o ∷ [])
  unfolding provided with_provider
  provided_behind o u [] t = refl
  provided_behind o u (v ∷ l) t = ap (λ (r : List (Transfer X)). u ∷ r) (provided_behind o v l t)

  provided_last : (o : Option X) (l : List (Transfer X)) (t : Transfer X) (s : Paying X) → (provider_of true (l ++ t ∷ []) o s).rows ≡ l ++ with_provider t o ∷ []
  unfolding provider_of provided with_provider
  provided_last o [] t s = refl
  provided_last o (u ∷ l) t s = provided_behind o u l t

  provided_still : (o : Option X) (l : List (Transfer X)) (t : Transfer X) (s : Paying X) → (provider_of true (l ++ t ∷ []) o s).last ≡ s.last
  unfolding provider_of
  provided_still o [] t s = refl
  provided_still o (u ∷ l) t s = refl

  -- an institution gives the account its provider
  open_institution : (s : Paying X) (pre : List (Transfer X)) (t : Transfer X) (c : N) → Open s pre t → Open (part D institution s c) pre (with_provider t (kid_text D 0 c (bytes "BICID")))
  unfolding part fixes_as
  open_institution s pre t c o =
      record {
        means = part_means institution s c ∙ ap (λ (m : Means X). or_means m unset) o.means;
        last = ap (λ (q : Paying X). q.last) here ∙ provided_still (kid_text D 0 c (bytes "BICID")) pre t s ∙ o.last;
        rows = ap (λ (q : Paying X). q.rows) here ∙ provided_last (kid_text D 0 c (bytes "BICID")) pre t s;
      }
    where
      here : provider_of s.last s.rows (kid_text D 0 c (bytes "BICID")) s ≡ provider_of true (pre ++ t ∷ []) (kid_text D 0 c (bytes "BICID")) s
      here = ap₂ (λ (b : Bool) (l : List (Transfer X)). provider_of b l (kid_text D 0 c (bytes "BICID")) s) o.last o.rows

  -- a further account joins
  open_account : (s : Paying X) (pre : List (Transfer X)) (t : Transfer X) (c : N) → Open s pre t → Open (part D creditor_account s c) (pre ++ t ∷ []) (transfer_row D c none)
  unfolding part creditor joined transfer_row
  open_account s pre t c o = rw o.means (record { means = refl; last = refl; rows = ap (λ (l : List (Transfer X)). l ++ transfer_row D c none ∷ []) o.rows })

  -- any other part leaves it
  open_kept : (p : Part) (s : Paying X) (pre : List (Transfer X)) (t : Transfer X) (c : N) → is_yes (Part-discrete p creditor_account) ≡ false → is_yes (Part-discrete p institution) ≡ false → Open s pre t → Open (part D p s c) pre t
  open_kept p s pre t c a i o =
      record { means = part_means p s c ∙ ap (λ (m : Means X). or_means m (fixes_as p c)) o.means; last = (part_kept p s c a i).last ∙ o.last; rows = (part_kept p s c a i).rows ∙ o.rows }

  transfers_account : (c : N) (cs : List N) → is_account D c ≡ true → transfers_in D (c ∷ cs) ≡ transfer_row D c (provider_after D cs) ∷ transfers_in D cs
  unfolding transfers_in
  transfers_account c cs e = rw e

  transfers_next : (c : N) (cs : List N) → is_account D c ≡ false → transfers_in D (c ∷ cs) ≡ transfers_in D cs
  unfolding transfers_in
  transfers_next c cs e = rw e

  -- the rows of the parts behind an account
  abbrev OpenRows : List N → Type 0
  OpenRows cs = (s : Paying X) (pre : List (Transfer X)) (t : Transfer X) → Open s pre t → (foldl (paying D) s cs).rows ≡ pre ++ with_provider t (provider_from t.provider cs) ∷ transfers_in D cs

  open_step : (c : N) (cs : List N) → OpenRows cs → OpenRows (c ∷ cs)
  unfolding with_provider transfer_row provider_after provider_from
  open_step c cs h s pre t o = go (is_yes (Part-discrete (part_of D c) creditor_account)) (is_yes (Part-discrete (part_of D c) institution)) refl refl
    where
      here : (p : Part) → part_of D c ≡ p → (foldl (paying D) (paying D s c) cs).rows ≡ (foldl (paying D) (part D p s c) cs).rows
      here p e = ap (λ (q : Paying X). (foldl (paying D) q cs).rows) (paying_as s c p e)

      -- behind a part that is no account
      next : (i : Bool) → is_yes (Part-discrete (part_of D c) creditor_account) ≡ false → is_yes (Part-discrete (part_of D c) institution) ≡ i →
          pre ++ with_provider t (provider_from (cond i (kid_text D 0 c (bytes "BICID")) t.provider) cs) ∷ transfers_in D cs ≡ pre ++ with_provider t (provider_from t.provider (c ∷ cs)) ∷ transfers_in D (c ∷ cs)
      next i e f =
          ap₂ (λ (q : Option X) (l : List (Transfer X)). pre ++ with_provider t q ∷ l)
          (sym (provider_next t.provider c cs (account_test c ∙ e) ∙ ap (λ (b : Bool). provider_from (cond b (kid_text D 0 c (bytes "BICID")) t.provider) cs) (part_test institution (λ p. true≢false cc) c ∙ f)))
          (sym (transfers_next c cs (account_test c ∙ e)))

      go : (a i : Bool) → is_yes (Part-discrete (part_of D c) creditor_account) ≡ a → is_yes (Part-discrete (part_of D c) institution) ≡ i → (foldl (paying D) s (c ∷ cs)).rows ≡ pre ++ with_provider t (provider_from t.provider (c ∷ cs)) ∷ transfers_in D (c ∷ cs)
      go true i e f =
          here creditor_account (is_yes_true (Part-discrete (part_of D c) creditor_account) e)
          ∙ h (part D creditor_account s c) (pre ++ t ∷ []) (transfer_row D c none) (open_account s pre t c o)
          ∙ append_assoc pre (t ∷ []) (transfer_row D c (provider_after D cs) ∷ transfers_in D cs)
          ∙ ap₂ (λ (q : Option X) (l : List (Transfer X)). pre ++ with_provider t q ∷ l) (sym (provider_last t.provider c cs (account_test c ∙ e))) (sym (transfers_account c cs (account_test c ∙ e)))
      go false true e f =
          here institution (is_yes_true (Part-discrete (part_of D c) institution) f)
          ∙ h (part D institution s c) pre (with_provider t (kid_text D 0 c (bytes "BICID"))) (open_institution s pre t c o)
          ∙ next true e f
      go false false e f = here (part_of D c) refl ∙ h (part D (part_of D c) s c) pre t (open_kept (part_of D c) s pre t c e f o) ∙ next false e f

  open_rows : (cs : List N) → OpenRows cs
  unfolding with_provider provider_from until_account last_named last_that transfers_in
  open_rows [] s pre t o = o.rows
  open_rows (c ∷ cs) s pre t o = open_step c cs (open_rows cs) s pre t o

  -- no account is held in this payment means yet
  record Shut (s : Paying X) : Type 0 where
    pub last : s.last ≡ false
    pub rows : s.rows ≡ []

  shut_provider : (b : Bool) (l : List (Transfer X)) (o : Option X) (s : Paying X) → b ≡ false → Shut s → Shut (provider_of b l o s)
  unfolding provider_of not_held
  shut_provider true l o s e h = absurd (true≢false e)
  shut_provider false l none s e h = h
  shut_provider false l (some x) s e h = record { last = h.last; rows = h.rows }

  shut_part : (p : Part) (s : Paying X) (c : N) → is_yes (Part-discrete p creditor_account) ≡ false → Shut s → Shut (part D p s c)
  unfolding part
  shut_part type_code s c a h = record { last = h.last; rows = h.rows }
  shut_part information s c a h = record { last = h.last; rows = h.rows }
  shut_part financial_card s c a h = record { last = (first_kept s.payment.means _ _ _ s).last ∙ h.last; rows = (first_kept s.payment.means _ _ _ s).rows ∙ h.rows }
  shut_part debtor_account s c a h = record { last = (first_kept s.payment.means _ _ _ s).last ∙ h.last; rows = (first_kept s.payment.means _ _ _ s).rows ∙ h.rows }
  shut_part creditor_account s c a h = absurd (true≢false a)
  shut_part institution s c a h = shut_provider s.last s.rows _ s h.last h
  shut_part unknown s c a h = record { last = h.last; rows = h.rows }

  -- the rows of the parts from there on
  abbrev ShutRows : List N → Type 0
  ShutRows cs = (s : Paying X) → Shut s → (foldl (paying D) s cs).rows ≡ cond (are_transfers (or_means s.payment.means (fixed D cs))) (transfers_in D cs) []

  -- an account is held, or lost beside other means
  shut_account : (c : N) (cs : List N) → ShutRows cs → part_of D c ≡ creditor_account → is_account D c ≡ true → (m : Means X) (s : Paying X) → s.payment.means ≡ m → Shut s → (foldl (paying D) (creditor D m c s) cs).rows ≡ cond (are_transfers (or_means m (fixed D (c ∷ cs)))) (transfers_in D (c ∷ cs)) []
  unfolding creditor joined lost not_held fixed fixes_as with_provider provider_from provider_after transfer_row
  shut_account c cs i e a unset s q h =
      rw (fixes-as c, e, transfers_account c cs a)
      (open_rows cs (joined D c s) [] (transfer_row D c none) (record { means = refl; last = refl; rows = ap (λ (l : List (Transfer X)). l ++ transfer_row D c none ∷ []) h.rows }))
  shut_account c cs i e a transfers s q h =
      rw (transfers_account c cs a)
      (open_rows cs (joined D c s) [] (transfer_row D c none) (record { means = refl; last = refl; rows = ap (λ (l : List (Transfer X)). l ++ transfer_row D c none ∷ []) h.rows }))
  shut_account c cs i e a (card x y) s q h = i (lost s) (record { last = refl; rows = h.rows }) ∙ ap (λ (m : Means X). cond (are_transfers (or_means m (fixed D cs))) (transfers_in D cs) []) q
  shut_account c cs i e a (debit x) s q h = i (lost s) (record { last = refl; rows = h.rows }) ∙ ap (λ (m : Means X). cond (are_transfers (or_means m (fixed D cs))) (transfers_in D cs) []) q

  shut_step : (c : N) (cs : List N) → ShutRows cs → ShutRows (c ∷ cs)
  unfolding part fixed
  shut_step c cs i s h = go (is_yes (Part-discrete (part_of D c) creditor_account)) refl
    where
      go : (a : Bool) → is_yes (Part-discrete (part_of D c) creditor_account) ≡ a → (foldl (paying D) s (c ∷ cs)).rows ≡ cond (are_transfers (or_means s.payment.means (fixed D (c ∷ cs)))) (transfers_in D (c ∷ cs)) []
      go true a =
          let e : part_of D c ≡ creditor_account = is_yes_true (Part-discrete (part_of D c) creditor_account) a in
          ap (λ (q : Paying X). (foldl (paying D) q cs).rows) (paying_as s c creditor_account e) ∙ shut_account c cs i e (account_test c ∙ a) s.payment.means s refl h
      go false a =
          i (paying D s c) (rw (paying_as s c (part_of D c) refl) (shut_part (part_of D c) s c a h))
          ∙ ap₂ (λ (m : Means X) (l : List (Transfer X)). cond (are_transfers m) l []) (ap (λ (m : Means X). or_means m (fixed D cs)) (paying_means s c) ∙ or_assoc s.payment.means (fixes D c) (fixed D cs))
          (sym (transfers_next c cs (account_test c ∙ a)))

  shut_rows : (cs : List N) → ShutRows cs
  unfolding transfers_in
  shut_rows [] s h = h.rows ∙ go (are_transfers (or_means s.payment.means (fixed D [])))
    where
      go : (b : Bool) → ◌≡◌ {A = List (Transfer X)} [] (cond b [] [])
      go true = refl
      go false = refl
  shut_rows (c ∷ cs) s h = shut_step c cs (shut_rows cs) s h

  -- the parts of two payment means, one after the other
  pub fixed_append : (l r : List N) → fixed D (l ++ r) ≡ or_means (fixed D l) (fixed D r)
  unfolding fixed
  fixed_append [] r = refl
  fixed_append (c ∷ l) r = ap (or_means (fixes D c)) (fixed_append l r) ∙ sym (or_assoc (fixes D c) (fixed D l) (fixed D r))

  -- an account fixes a kind
  pub no_account : (l : List N) → fixed D l ≡ unset → transfers_in D l ≡ []
  unfolding fixed transfers_in fixes_as
  no_account [] e = refl
  no_account (c ∷ l) e = go (is_yes (Part-discrete (part_of D c) creditor_account)) refl (no_account l)
    where
      go : (a : Bool) → is_yes (Part-discrete (part_of D c) creditor_account) ≡ a → (fixed D l ≡ unset → transfers_in D l ≡ []) → transfers_in D (c ∷ l) ≡ []
      go true a i =
          absurd
          (true≢false
          (ap are_transfers (sym (ap (λ (m : Means X). or_means m (fixed D l)) (fixes-as c ∙ ap (λ (p : Part). fixes_as p c) (is_yes_true (Part-discrete (part_of D c) creditor_account) a))) ∙ e)))
      go false a i = transfers_next c l (account_test c ∙ a) ∙ i (or_rest (fixes D c) (fixed D l) e)

  -- what a payment means makes of the payment so far
  pub paid_means : (p : Payment X) (n : N) → (paid D p n).payment.means ≡ or_means p.means (fixed D (D.kids n))
  unfolding paid paying_start
  paid_means p n = fold_means (paying_start p) (D.kids n)

  -- its transfers
  pub paid_rows : (p : Payment X) (n : N) → (paid D p n).rows ≡ cond (are_transfers (or_means p.means (fixed D (D.kids n)))) (transfers_in D (D.kids n)) []
  unfolding paid paying_start
  paid_rows p n = shut_rows (D.kids n) (paying_start p) (record { last = refl; rows = refl })
