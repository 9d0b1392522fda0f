-- The optional amounts of the last summation, by its children alone (document 01, `read.rs`: Summation).
use mathlib.Core.Path.{◌≡◌, refl, sym, ap, ◌∙◌, subst}
use mathlib.Core.Bool.{Bool, true, false, cond, not, ◌&&◌, ◌||◌, true≢false}
use mathlib.Core.List.{List, [], ◌∷◌, foldl}
use mathlib.Core.Option.{Option, none, some}
use Prim.Native.String.{String}
use lib.IntN.{ℤ}
use Rattle.text.specs.Order.{equal}
use Rattle.text.specs.Utf8.{bytes, encode}
use Rattle.amount.specs.Amount.{parsed_amount}
use Rattle.names.specs.declared.message.Message.TheVariants as Message
use Rattle.names.specs.declared.path.Path.TheVariants as Path
use Rattle.report.specs.Rows.{Entry}
use Rattle.settlement.specs.Document.{Doc, maybe, or_else, or}
use Rattle.settlement.specs.Kinds.{Kind, summation, same_kind, home}
use Rattle.settlement.specs.Shapes.{Totals, no_totals, State, blank, Currencies}
use Rattle.settlement.specs.Values.{Lent, site, text_bytes, first, kid, attribute}
use Rattle.settlement.specs.Summation.{unread, sums, Summing, is_none, with_vat, sum_of, is_currency, tax_in, tax_amount, tax_total_of, summand, summing, summed, totals}
use Rattle.settlement.specs.Settlement.{own, kind_of, so_far, seen, act, step, after, terms_of, reading_of}
use Rattle.settlement.specs.Alike.{keep}
use Rattle.settlement.specs.Last.{is_named, last_that, before_last, from_last, last_named, first_given}
use Rattle.settlement.specs.ChildRows.{amount_at, amount_in}
use Rattle.settlement.specs.Meetings.{is_listed}
use Rattle.settlement.specs.TaxTotals.{currencies_before, tax_totals_in, is_in_currency, has_no_currency, sets_vat, fills_vat, tax_amount_at, accounting_vat_in, vat_in}
use Rattle.settlement.proofs.Naming.{Each, meant_one}
use Rattle.settlement.proofs.Lanes.{same_kind_eq}
use Rattle.settlement.proofs.Exchange.{frame, own_lane}
use Rattle.settlement.proofs.Names.{own_of, home_is, at_home}
use Rattle.settlement.proofs.PlainValues.{answered_is, amount_is}
use Rattle.settlement.proofs.LastWins.{last_walk, bt5_last, bt6_last, total_last}
use Rattle.settlement.proofs.FirstWins.{or-none, or_join}

-- a walk of which only the children that pass a test change a part
walk_keep : {N S B : Type 0} (step : S → N → S) (has : S → B) (t : N → Bool) (g : B → N → B) → ((s : S) (n : N) → has (step s n) ≡ cond (t n) (g (has s) n) (has s)) → (s : S) (cs : List N) → has (foldl step s cs) ≡ foldl g (has s) (keep t cs)
unfolding keep
walk_keep step has t g h s [] = refl
walk_keep {N} {S} {B} step has t g h s (c ∷ cs) = walk_keep step has t g h (step s c) cs ∙ ap (λ (v : B). foldl g v (keep t cs)) (h s c) ∙ go (t c)
  where
    go : (b : Bool) → foldl g (cond b (g (has s) c) (has s)) (keep t cs) ≡ foldl g (has s) (cond b (c ∷ keep t cs) (keep t cs))
    go true = refl
    go false = refl

-- where no child passes, all are behind the last that does
from_none : {N : Type 0} (t : N → Bool) (cs : List N) → last_that t cs ≡ none → from_last t cs ≡ cs
unfolding last_that from_last
from_none t [] e = refl
from_none {N} t (c ∷ cs) e = go (last_that t cs) e
  where
    go : (r : Option N) → or_else r (cond (t c) (some c) none) ≡ none → cond (is_none r) (c ∷ cs) (from_last t cs) ≡ c ∷ cs
    go none q = refl
    go (some n) q = absurd (true≢false cc)

-- a walk that sets a value at some children, and at others fills it in where it is blank
module _ {N A : Type 0} (sets fills : N → Bool) (f : N → Option A) where
  set_or_fill : Option A → N → Option A
  set_or_fill v c = cond (sets c) (f c) (cond (fills c) (or_else v (f c)) v)

  either : N → Bool
  either c = sets c || fills c

  set_walk : (v : Option A) (cs : List N) → foldl set_or_fill v cs ≡ cond (is_none (last_that sets cs)) (or_else v (first_given f (keep either cs))) (first_given f (keep either (from_last sets cs)))
  unfolding set_or_fill either last_that from_last keep first_given
  set_walk v [] = sym (or-none v)
  set_walk v (c ∷ cs) = set_walk (set_or_fill v c) cs ∙ go (last_that sets cs)
    where
      rest : Option A
      rest = first_given f (keep either cs)

      blank : (b d : Bool) → or_else (cond b (f c) (cond d (or_else v (f c)) v)) rest ≡ cond (is_none (cond b (some c) none)) (or_else v (first_given f (cond (b || d) (c ∷ keep either cs) (keep either cs)))) (first_given f (cond (b || d) (c ∷ keep either cs) (keep either cs)))
      blank true d = refl
      blank false true = or_join v (f c) rest
      blank false false = refl

      go : (r : Option N) → cond (is_none r) (or_else (set_or_fill v c) rest) (first_given f (keep either (from_last sets cs))) ≡
          cond (is_none (or_else r (cond (sets c) (some c) none))) (or_else v (first_given f (keep either (c ∷ cs)))) (first_given f (keep either (cond (is_none r) (c ∷ cs) (from_last sets cs))))
      go none = blank (sets c) (fills c)
      go (some n) = refl

  set_last : (cs : List N) → foldl set_or_fill none cs ≡ first_given f (keep either (from_last sets cs))
  set_last cs = set_walk none cs ∙ go (last_that sets cs) refl
    where
      go : (r : Option N) → last_that sets cs ≡ r → cond (is_none r) (first_given f (keep either cs)) (first_given f (keep either (from_last sets cs))) ≡ first_given f (keep either (from_last sets cs))
      go none e = ap (λ (l : List N). first_given f (keep either l)) (sym (from_none sets cs e))
      go (some n) e = refl

-- what a tax total of amount a makes of the amounts
pub record Taxed {X : Type 0} (sets fills accounts : Bool) (a : Option ℤ) (s q : Summing X) : Type 0 where
  pub vat : q.vat ≡ cond sets a (cond fills (or_else s.vat a) s.vat)
  pub vat_accounting : q.vat_accounting ≡ cond accounts a s.vat_accounting
  pub allowance : q.allowance ≡ s.allowance
  pub charge : q.charge ≡ s.charge
  pub rounded : q.rounded ≡ s.rounded
  pub paid : q.paid ≡ s.paid
  pub strays : q.strays ≡ s.strays

-- before the first child of a summation
abbrev nothing_yet : {X : Type 0} → Summing X
nothing_yet = record { allowance = none; charge = none; vat = none; vat_accounting = none; rounded = none; paid = none; says = []; strays = [] }

filled_in : {A : Type 0} (v a : Option A) → cond (is_none v) a v ≡ or_else v a
filled_in none a = refl
filled_in (some x) a = refl

module _ {N X : Type 0} (L : Lent) (D : Doc N X) (cur : Currencies X) where
  taxed_in : (a : Option ℤ) (es : List (Entry X)) (s : Summing X) (o : Option X) →
      Taxed (maybe true (λ x. false) o || (maybe false (is_currency D cur.bt5) o && not (maybe false (is_currency D cur.bt6) o))) (maybe false (is_currency D cur.bt5) o && maybe false (is_currency D cur.bt6) o) (maybe false (is_currency D cur.bt6) o) a s
      (maybe (with_vat a s.vat_accounting es s) (tax_in D cur a es s) o)
  unfolding with_vat tax_in
  taxed_in a es s none = record { vat = refl; vat_accounting = refl; allowance = refl; charge = refl; rounded = refl; paid = refl; strays = refl }
  taxed_in a es s (some x) = go (is_currency D cur.bt5 x) (is_currency D cur.bt6 x) _
    where
      go : (b d : Bool) (fs : List (Entry X)) → Taxed (b && not d) (b && d) d a s (cond d (with_vat (cond (b && is_none s.vat) a s.vat) a es s) (cond b (with_vat a s.vat_accounting es s) (with_vat s.vat s.vat_accounting fs s)))
      go true true fs = record { vat = filled_in s.vat a; vat_accounting = refl; allowance = refl; charge = refl; rounded = refl; paid = refl; strays = refl }
      go true false fs = record { vat = refl; vat_accounting = refl; allowance = refl; charge = refl; rounded = refl; paid = refl; strays = refl }
      go false true fs = record { vat = refl; vat_accounting = refl; allowance = refl; charge = refl; rounded = refl; paid = refl; strays = refl }
      go false false fs = record { vat = refl; vat_accounting = refl; allowance = refl; charge = refl; rounded = refl; paid = refl; strays = refl }

  -- by the rule of document 01
  pub taxed : (s : Summing X) (c : N) → Taxed (sets_vat D cur c) (fills_vat D cur c) (is_in_currency D cur.bt6 c) (tax_amount_at L.mode D c) s (tax_total_of L D cur s c)
  unfolding tax_total_of sets_vat fills_vat has_no_currency is_in_currency tax_amount_at tax_amount
  taxed s c =
      subst (λ (a : Option ℤ). Taxed (sets_vat D cur c) (fills_vat D cur c) (is_in_currency D cur.bt6 c) a s (tax_total_of L D cur s c))
      (answered_is L.mode D (λ n. Message.TaxTotalUnreadable) (site Path.SummationTaxTotalAmount none) c (parsed_amount L.mode (text_bytes D c)))
      (taxed_in (tax_amount L.mode D c).0 (tax_amount L.mode D c).1 s (attribute D c (bytes "currencyID")))

  -- one child: what its name makes of an amount
  summing_one : {B : Type 0} (has : Summing X → B) (w : String) (v : B) (n : N) (s : Summing X) (c : N) → Each unread (λ k. has (summand L D k cur n s c)) (λ m. equal m (bytes w)) v (has s) sums → is_listed sums (bytes w) ≡ true → has (summand L D unread cur n s c) ≡ has s → has (summing L D cur n s c) ≡ cond (is_named D w c) v (has s)
  unfolding summing sum_of is_named
  summing_one has w v n s c e l h = meant_one unread (λ k. has (summand L D k cur n s c)) sums (D.bytes (D.name c)) w v (has s) e l h

  -- every child of a name makes the same of an amount
  same_walk : (n : N) (has : Summing X → Option ℤ) (w : String) (v : Option ℤ) → ((s : Summing X) (c : N) → has (summing L D cur n s c) ≡ cond (is_named D w c) v (has s)) → (s : Summing X) (cs : List N) → has (foldl (summing L D cur n) s cs) ≡ maybe (has s) (λ c. v) (first D (bytes w) cs)
  unfolding first is_named
  same_walk n has w v h s [] = refl
  same_walk n has w v h s (c ∷ cs) = same_walk n has w v h (summing L D cur n s c) cs ∙ go (is_named D w c) (first D (bytes w) cs) (h s c)
    where
      go : (b : Bool) (r : Option N) {a : Option ℤ} → a ≡ cond b v (has s) → maybe a (λ c. v) r ≡ maybe (has s) (λ c. v) (cond b (some c) r)
      go true none e = e
      go true (some d) e = refl
      go false none e = e
      go false (some d) e = refl

  -- so it is the first child's amount, absent where there is none
  optional : (n : N) (has : Summing X → Option ℤ) (w : String) → has nothing_yet ≡ none → ((s : Summing X) (c : N) → has (summing L D cur n s c) ≡ cond (is_named D w c) (amount_in L.mode L.currency D n (bytes w)) (has s)) → has (summed L D cur n) ≡ amount_in L.mode L.currency D n (bytes w)
  unfolding summed amount_in kid
  optional n has w z h =
      same_walk n has w (amount_in L.mode L.currency D n (bytes w)) h nothing_yet (D.kids n)
      ∙ ap (λ (v : Option ℤ). maybe v (λ c. amount_in L.mode L.currency D n (bytes w)) (first D (bytes w) (D.kids n))) z
      ∙ go (first D (bytes w) (D.kids n))
    where
      go : (o : Option N) → maybe none (λ c. maybe none (amount_at L.mode L.currency D) o) o ≡ maybe none (amount_at L.mode L.currency D) o
      go none = refl
      go (some c) = refl

  summed_allowance : (n : N) → (summed L D cur n).allowance ≡ amount_in L.mode L.currency D n (bytes "AllowanceTotalAmount")
  unfolding summand sums is_listed equal bytes encode
  summed_allowance n =
      optional n (λ (s : Summing X). s.allowance) "AllowanceTotalAmount" refl
      (λ s c. summing_one (λ (q : Summing X). q.allowance) "AllowanceTotalAmount" _ n s c (refl, (refl, (refl, (refl, (refl, (amount_is L.mode L.currency D _ n (bytes "AllowanceTotalAmount"), ((taxed s c).allowance, (refl, (refl, tt))))))))) refl refl)

  summed_charge : (n : N) → (summed L D cur n).charge ≡ amount_in L.mode L.currency D n (bytes "ChargeTotalAmount")
  unfolding summand sums is_listed equal bytes encode
  summed_charge n =
      optional n (λ (s : Summing X). s.charge) "ChargeTotalAmount" refl
      (λ s c. summing_one (λ (q : Summing X). q.charge) "ChargeTotalAmount" _ n s c (refl, (refl, (refl, (refl, (amount_is L.mode L.currency D _ n (bytes "ChargeTotalAmount"), (refl, ((taxed s c).charge, (refl, (refl, tt))))))))) refl refl)

  summed_paid : (n : N) → (summed L D cur n).paid ≡ amount_in L.mode L.currency D n (bytes "TotalPrepaidAmount")
  unfolding summand sums is_listed equal bytes encode
  summed_paid n =
      optional n (λ (s : Summing X). s.paid) "TotalPrepaidAmount" refl
      (λ s c. summing_one (λ (q : Summing X). q.paid) "TotalPrepaidAmount" _ n s c (refl, (refl, (refl, (refl, (refl, (refl, ((taxed s c).paid, (refl, (amount_is L.mode L.currency D _ n (bytes "TotalPrepaidAmount"), tt))))))))) refl refl)

  summed_rounded : (n : N) → (summed L D cur n).rounded ≡ amount_in L.mode L.currency D n (bytes "RoundingAmount")
  unfolding summand sums is_listed equal bytes encode
  summed_rounded n =
      optional n (λ (s : Summing X). s.rounded) "RoundingAmount" refl
      (λ s c. summing_one (λ (q : Summing X). q.rounded) "RoundingAmount" _ n s c (refl, (refl, (refl, (refl, (refl, (refl, ((taxed s c).rounded, (amount_is L.mode L.currency D _ n (bytes "RoundingAmount"), (refl, tt))))))))) refl refl)

  summed_vat : (n : N) → (summed L D cur n).vat ≡ vat_in L.mode D cur n
  unfolding summed vat_in tax_totals_in set_or_fill either summand sums is_listed equal bytes encode
  summed_vat n =
      walk_keep (summing L D cur n) (λ (s : Summing X). s.vat) (is_named D "TaxTotalAmount") (set_or_fill (sets_vat D cur) (fills_vat D cur) (tax_amount_at L.mode D))
      (λ s c. summing_one (λ (q : Summing X). q.vat) "TaxTotalAmount" _ n s c (refl, (refl, (refl, (refl, (refl, (refl, ((taxed s c).vat, (refl, (refl, tt))))))))) refl refl) nothing_yet (D.kids n)
      ∙ set_last (sets_vat D cur) (fills_vat D cur) (tax_amount_at L.mode D) (tax_totals_in D n)

  summed_accounting : (n : N) → (summed L D cur n).vat_accounting ≡ accounting_vat_in L.mode D cur n
  unfolding summed accounting_vat_in tax_totals_in summand sums is_listed equal bytes encode
  summed_accounting n =
      walk_keep (summing L D cur n) (λ (s : Summing X). s.vat_accounting) (is_named D "TaxTotalAmount") (λ v c. cond (is_in_currency D cur.bt6 c) (tax_amount_at L.mode D c) v)
      (λ s c. summing_one (λ (q : Summing X). q.vat_accounting) "TaxTotalAmount" _ n s c (refl, (refl, (refl, (refl, (refl, (refl, ((taxed s c).vat_accounting, (refl, (refl, tt))))))))) refl refl) nothing_yet (D.kids n)
      ∙ last_walk (λ (v : Option ℤ) (c : N). cond (is_in_currency D cur.bt6 c) (tax_amount_at L.mode D c) v) (λ (v : Option ℤ). v) (is_in_currency D cur.bt6) (tax_amount_at L.mode D) (λ v c. refl) none (tax_totals_in D n)

module _ {N X : Type 0} (L : Lent) (D : Doc N X) where
  -- a summation sees BT-5 and BT-6 as read so far
  summation_next : (s : State X) (c : N) → step L D s c summation ≡ cond (is_named D "SpecifiedTradeSettlementHeaderMonetarySummation" c) (totals L D (so_far s) c).next (s summation)
  unfolding act own seen same_kind
  summation_next s c = rw (← (at_home L D summation (own_of summation tt) c)) (go (same_kind summation (home (kind_of D c))) refl)
    where
      go : (b : Bool) → same_kind summation (home (kind_of D c)) ≡ b → step L D s c summation ≡ cond b (totals L D (so_far s) c).next (s summation)
      go true e = own_lane L D summation s c e ∙ ap (λ (k : Kind). (totals L D (seen k s) c).next) (home_is L D (kind_of D c) summation (sym (same_kind_eq summation (home (kind_of D c)) e)) (own_of summation tt).alone)
      go false e = frame L D summation s c e

  -- the last one counts, by what was read before it
  summation_last : (s : State X) (cs : List N) → foldl (step L D) s cs summation ≡ maybe (s summation) (λ n. (totals L D (so_far (foldl (step L D) s (before_last (is_named D "SpecifiedTradeSettlementHeaderMonetarySummation") cs))) n).next) (last_named D "SpecifiedTradeSettlementHeaderMonetarySummation" cs)
  unfolding last_named last_that before_last
  summation_last s [] = refl
  summation_last s (c ∷ cs) = summation_last (step L D s c) cs ∙ go (last_that is_summation cs) (is_summation c) (summation_next s c)
    where
      is_summation : N → Bool
      is_summation = is_named D "SpecifiedTradeSettlementHeaderMonetarySummation"

      go : (r : Option N) (b : Bool) {a : Option Totals} → a ≡ cond b (totals L D (so_far s) c).next (s summation) →
          maybe a (λ n. (totals L D (so_far (foldl (step L D) (step L D s c) (before_last is_summation cs))) n).next) r ≡
          maybe (s summation) (λ n. (totals L D (so_far (foldl (step L D) s (cond (is_none r) [] (c ∷ before_last is_summation cs)))) n).next) (or_else r (cond b (some c) none))
      go none true e = e
      go none false e = e
      go (some n) b e = refl

module _ {N X : Type 0} (L : Lent) (D : Doc N X) (cs : List N) where
  -- BT-107 is the amount of the first AllowanceTotalAmount of the last summation, absent where there is none or it can't be read
  pub bt107_last : (reading_of L D cs).terms.totals.allowance ≡ maybe none (λ n. amount_in L.mode L.currency D n (bytes "AllowanceTotalAmount")) (last_named D "SpecifiedTradeSettlementHeaderMonetarySummation" cs)
  unfolding totals
  bt107_last = total_last L D cs (λ (t : Totals). t.allowance) (λ n. amount_in L.mode L.currency D n (bytes "AllowanceTotalAmount")) (λ cur n. summed_allowance L D cur n)

  -- BT-108 of its first ChargeTotalAmount
  pub bt108_last : (reading_of L D cs).terms.totals.charge ≡ maybe none (λ n. amount_in L.mode L.currency D n (bytes "ChargeTotalAmount")) (last_named D "SpecifiedTradeSettlementHeaderMonetarySummation" cs)
  unfolding totals
  bt108_last = total_last L D cs (λ (t : Totals). t.charge) (λ n. amount_in L.mode L.currency D n (bytes "ChargeTotalAmount")) (λ cur n. summed_charge L D cur n)

  -- BT-113 of its first TotalPrepaidAmount
  pub bt113_last : (reading_of L D cs).terms.totals.paid ≡ maybe none (λ n. amount_in L.mode L.currency D n (bytes "TotalPrepaidAmount")) (last_named D "SpecifiedTradeSettlementHeaderMonetarySummation" cs)
  unfolding totals
  bt113_last = total_last L D cs (λ (t : Totals). t.paid) (λ n. amount_in L.mode L.currency D n (bytes "TotalPrepaidAmount")) (λ cur n. summed_paid L D cur n)

  -- BT-114 of its first RoundingAmount
  pub bt114_last : (reading_of L D cs).terms.totals.rounding ≡ maybe none (λ n. amount_in L.mode L.currency D n (bytes "RoundingAmount")) (last_named D "SpecifiedTradeSettlementHeaderMonetarySummation" cs)
  unfolding totals
  bt114_last = total_last L D cs (λ (t : Totals). t.rounding) (λ n. amount_in L.mode L.currency D n (bytes "RoundingAmount")) (λ cur n. summed_rounded L D cur n)

  -- BT-5 and BT-6 before it, by the children before it
  before_is : so_far (after L D (before_last (is_named D "SpecifiedTradeSettlementHeaderMonetarySummation") cs)) ≡ currencies_before D cs
  unfolding so_far currencies_before reading_of terms_of
  before_is =
      let before : List N = before_last (is_named D "SpecifiedTradeSettlementHeaderMonetarySummation") cs in
      λ i. record { bt5 = bt5_last L D before i; bt6 = bt6_last L D before i }

  -- an amount that depends on them
  tax_last : (has : Totals → Option ℤ) (f : Currencies X → N → Option ℤ) → has no_totals ≡ none → ((cur : Currencies X) (n : N) → has (or no_totals (totals L D cur n).next) ≡ f cur n) → has (reading_of L D cs).terms.totals ≡ maybe none (f (currencies_before D cs)) (last_named D "SpecifiedTradeSettlementHeaderMonetarySummation" cs)
  unfolding reading_of terms_of after
  tax_last has f z h = ap (λ (t : Option Totals). has (or no_totals t)) (summation_last L D (blank X) cs) ∙ go (last_named D "SpecifiedTradeSettlementHeaderMonetarySummation" cs)
    where
      go : (r : Option N) → has (or no_totals (maybe none (λ n. (totals L D (so_far (after L D (before_last (is_named D "SpecifiedTradeSettlementHeaderMonetarySummation") cs))) n).next) r)) ≡ maybe none (f (currencies_before D cs)) r
      go none = z
      go (some n) = h _ n ∙ ap (λ (cur : Currencies X). f cur n) before_is

  -- BT-110 is that of the tax totals of the last summation that set it or fill it in, by BT-5 and BT-6 as read before it: an unreadable one that sets it leaves it blank
  pub bt110_last : (reading_of L D cs).terms.totals.vat ≡ maybe none (vat_in L.mode D (currencies_before D cs)) (last_named D "SpecifiedTradeSettlementHeaderMonetarySummation" cs)
  unfolding totals
  bt110_last = tax_last (λ (t : Totals). t.vat) (vat_in L.mode D) refl (λ cur n. summed_vat L D cur n)

  -- BT-111 is that of its last tax total in BT-6, absent where that is unreadable
  pub bt111_last : (reading_of L D cs).terms.totals.vat_accounting ≡ maybe none (accounting_vat_in L.mode D (currencies_before D cs)) (last_named D "SpecifiedTradeSettlementHeaderMonetarySummation" cs)
  unfolding totals
  bt111_last = tax_last (λ (t : Totals). t.vat_accounting) (accounting_vat_in L.mode D) refl (λ cur n. summed_accounting L D cur n)
