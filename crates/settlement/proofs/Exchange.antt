-- Two neighbouring children of a settlement change places, in any one document.
use mathlib.Core.Path.{◌≡◌, refl, sym, ap, ap₂, ◌∙◌, subst, fun_ext}
use mathlib.Core.Bool.{Bool, true, false, cond, true≢false}
use mathlib.Core.HLevel.{Unit-prop}
use mathlib.Core.List.Perm
use mathlib.Core.List.{List, [], ◌∷◌, ◌++◌, foldl, map}
use mathlib.Core.Logic.{◌⊎◌, inl, inr, ◌≢◌}
use Prim.Native.Nat.{ℕ}
use lib.Dec.{T, eqb, eqb→eq}
use Rattle.report.specs.Rows.{Transfer, Held, transfer, allowance, charge, AllowanceCharge}
use Rattle.settlement.specs.Document.{Doc}
use Rattle.settlement.specs.Kinds.{Kind, creditor_reference, payment_reference, tax_currency, invoice_currency, payee, payment_means, trade_tax, period, allowance_charge, logistics_charge, payment_terms, summation, preceding_invoice, accounting, other, Kind-discrete, same_kind, home}
use Rattle.settlement.specs.Shapes.{Counts, Of, State, blank, Act, Currencies}
use Rattle.settlement.specs.Values.{Lent}
use Rattle.settlement.specs.Tax.{trade_tax_of, is_charge, allowance_charge_of, allowance_or_charge, logistics_read, logistics_left, logistics}
use Rattle.settlement.specs.Payments.{paid, payment_means_of}
use Rattle.settlement.specs.Summation.{totals}
use Rattle.settlement.specs.Settlement.{quiet, period_of, payment_terms_of, preceding_of, own, kind_of, so_far, unseen, seen, act, step, says_of, holds_of, strays_of, terms_of, unmapped_order, after, reading_of}
use Rattle.settlement.specs.Alike.{row_kind, keep, of_kind, Alike}
use Rattle.settlement.proofs.Walks.{Apart, run_swap, crossed, crossed_perm, crossed_keep}
use Rattle.settlement.proofs.Sorting.{Total, crossed_sorted}
use Rattle.settlement.proofs.Lanes.{same_kind_eq, same_kind_refl}

home_other : {k : Kind} → k ≡ other → home k ≡ other
unfolding home same_kind
home_other e = ap home e

other_one : (X : Type 0) {l : Kind} → other ≡ l → IsProp (Of X l)
other_one X e = subst (λ (l : Kind). IsProp (Of X l)) e Unit-prop

module _ {N X : Type 0} (L : Lent) (D : Doc N X) where
  -- different lanes, or both unmapped
  abbrev pub Lanes : N → N → Type 0
  Lanes x y = (same_kind (home (kind_of D x)) (home (kind_of D y)) ≡ false) ⊎ ((kind_of D x ≡ other) × (kind_of D y ≡ other))

  -- neither currency's
  abbrev pub NoCurrency : N → Type 0
  NoCurrency y = (same_kind invoice_currency (home (kind_of D y)) ≡ false) × (same_kind tax_currency (home (kind_of D y)) ≡ false)

  -- two children that may change places: they have lanes of their own, and a summation's other is no currency
  pub record Free (x y : N) : Type 0 where
    pub lanes : Lanes x y
    pub money : same_kind (kind_of D x) summation ≡ true → NoCurrency y

  -- a child leaves every other lane alone
  pub frame : (l : Kind) (s : State X) (n : N) → same_kind l (home (kind_of D n)) ≡ false → step L D s n l ≡ s l
  unfolding step
  frame l s n e = rw e

  pub own_lane : (l : Kind) (s : State X) (n : N) → same_kind l (home (kind_of D n)) ≡ true → step L D s n l ≡ (act L D l s n).next
  unfolding step
  own_lane l s n e = rw e

  seen_same : (x y : N) → Free x y → (s : State X) → seen (kind_of D x) (step L D s y) ≡ seen (kind_of D x) s
  unfolding seen so_far
  seen_same x y f s = go (same_kind (kind_of D x) summation) f.money
    where
      go : (b : Bool) → (b ≡ true → NoCurrency y) → cond b (so_far (step L D s y)) (unseen) ≡ cond b (so_far s) (unseen)
      go true h = rw (frame invoice_currency s y (h refl).0, frame tax_currency s y (h refl).1)
      go false h = refl

  act_same : (x y : N) → Free x y → (l : Kind) (s : State X) → step L D s y l ≡ s l → act L D l (step L D s y) x ≡ act L D l s x
  unfolding act
  act_same x y f l s e = rw (seen_same x y f s, e)

  -- the lane of a child, after the other one
  still : (x y : N) → Free x y → (s : State X) → step L D s y (home (kind_of D x)) ≡ s (home (kind_of D x))
  still x y f s = go f.lanes
    where
      go : Lanes x y → step L D s y (home (kind_of D x)) ≡ s (home (kind_of D x))
      go (inl e) = frame (home (kind_of D x)) s y e
      go (inr e) = other_one X (sym (home_other e.0)) _ _

  acts_same : (x y : N) → Free x y → (s : State X) → act L D (home (kind_of D x)) (step L D s y) x ≡ act L D (home (kind_of D x)) s x
  acts_same x y f s = act_same x y f (home (kind_of D x)) s (still x y f s)

  says_same : (x y : N) → Free x y → (s : State X) → says_of L D (step L D s y) x ≡ says_of L D s x
  unfolding says_of
  says_same x y f s = ap (λ (a : Act X (Of X (home (kind_of D x)))). a.says) (acts_same x y f s)

  holds_same : (x y : N) → Free x y → (s : State X) → holds_of L D (step L D s y) x ≡ holds_of L D s x
  unfolding holds_of
  holds_same x y f s = ap (λ (a : Act X (Of X (home (kind_of D x)))). a.holds) (acts_same x y f s)

  strays_same : (x y : N) → Free x y → (s : State X) → strays_of L D (step L D s y) x ≡ strays_of L D s x
  unfolding strays_of
  strays_same x y f s = ap (λ (a : Act X (Of X (home (kind_of D x)))). a.strays) (acts_same x y f s)

  -- one lane after both, where only the first is at home there
  one_home : (x y : N) (f : Free x y) (s : State X) (l : Kind) → same_kind l (home (kind_of D x)) ≡ true → same_kind l (home (kind_of D y)) ≡ false → step L D (step L D s x) y l ≡ step L D (step L D s y) x l
  one_home x y f s l p q =
      frame l (step L D s x) y q
      ∙ own_lane l s x p
      ∙ ap (λ (a : Act X (Of X l)). a.next) (sym (act_same x y f l s (frame l s y q)))
      ∙ sym (own_lane l (step L D s y) x p)

  both_home : (x y : N) (f : Free x y) (l : Kind) → same_kind l (home (kind_of D x)) ≡ true → same_kind l (home (kind_of D y)) ≡ true → other ≡ l
  both_home x y f l p q = go f.lanes
    where
      go : Lanes x y → other ≡ l
      go (inl e) = absurd (true≢false (sym (same_kind_refl l) ∙ ap₂ same_kind (same_kind_eq _ _ p) (same_kind_eq _ _ q) ∙ e))
      go (inr e) = sym (same_kind_eq _ _ p ∙ home_other e.0)

  lane_swap : (x y : N) (f : Free x y) (g : Free y x) (s : State X) (l : Kind) (a b : Bool) → same_kind l (home (kind_of D x)) ≡ a → same_kind l (home (kind_of D y)) ≡ b → step L D (step L D s x) y l ≡ step L D (step L D s y) x l
  lane_swap x y f g s l true true p q = other_one X (both_home x y f l p q) _ _
  lane_swap x y f g s l true false p q = one_home x y f s l p q
  lane_swap x y f g s l false true p q = sym (one_home y x g s l q p)
  lane_swap x y f g s l false false p q = frame l (step L D s x) y q ∙ frame l s x p ∙ sym (frame l (step L D s y) x p ∙ frame l s y q)

  apart : (x y : N) → Free x y → Free y x → Apart (step L D) x y
  apart x y f g = record { state = λ s. fun_ext (λ l. lane_swap x y f g s l (same_kind l (home (kind_of D x))) (same_kind l (home (kind_of D y))) refl refl) }

-- the lane that makes the rows of a kind
unfoldable pub row_lane : ℕ → Kind
row_lane j = cond (eqb j 1) payment_means (cond (eqb j 2) trade_tax (cond (eqb j 3) allowance_charge (cond (eqb j 4) allowance_charge (cond (eqb j 5) preceding_invoice other))))

-- all rows are of kinds that a lane makes
abbrev pub Tagged : {X : Type 0} → Kind → List (Held X) → Type 0
Tagged l [] = Unit {0}
Tagged l (r ∷ rs) = (row_lane (row_kind r) ≡ l) × Tagged l rs

tagged_transfers : {X : Type 0} (ts : List (Transfer X)) → Tagged payment_means (map transfer ts)
unfolding row_lane
tagged_transfers [] = tt
tagged_transfers (t ∷ ts) = (refl, tagged_transfers ts)

tagged_charge : {X : Type 0} (b : Bool) (a : AllowanceCharge X) → row_lane (row_kind (cond b charge allowance a)) ≡ allowance_charge
unfolding row_lane
tagged_charge true a = refl
tagged_charge false a = refl

-- a lane makes no rows of another's kinds
pub tagged_none : {X : Type 0} (j : ℕ) (l : Kind) (rs : List (Held X)) → Tagged l rs → row_lane j ≢ l → of_kind j rs ≡ []
unfolding of_kind keep
tagged_none j l [] t h = refl
tagged_none {X} j l (r ∷ rs) t h = go (eqb (row_kind r) j) refl (tagged_none j l rs t.1 h)
  where
    go : (b : Bool) → eqb (row_kind r) j ≡ b → of_kind j rs ≡ [] → cond b (r ∷ of_kind j rs) (of_kind j rs) ≡ []
    go true e i = absurd (h (ap row_lane (sym (eqb→eq (row_kind r) j (subst T (sym e) tt))) ∙ t.0))
    go false e i = i

module _ {N X : Type 0} (L : Lent) (D : Doc N X) where
  charge_rows : (s : Counts) (n : N) (b : Bool) → Tagged allowance_charge (cond b (logistics L D s n) (allowance_or_charge L D s n)).holds
  unfolding logistics logistics_read logistics_left allowance_or_charge allowance_charge_of row_lane
  charge_rows s n true = go L.extension
    where
      go : (c : Bool) → Tagged allowance_charge (cond c (logistics_read L D s n) (logistics_left s)).holds
      go true = (refl, tt)
      go false = tt
  charge_rows s n false = (tagged_charge (is_charge D n).0 _, tt)

  own_rows : (l : Kind) (b : Bool) (s : Of X l) (cur : Currencies X) (n : N) → Tagged l (own L D l b s cur n).holds
  unfolding own quiet payment_means_of trade_tax_of period_of payment_terms_of totals preceding_of row_lane
  own_rows creditor_reference b s cur n = tt
  own_rows payment_reference b s cur n = tt
  own_rows tax_currency b s cur n = tt
  own_rows invoice_currency b s cur n = tt
  own_rows payee b s cur n = tt
  own_rows payment_means b s cur n = tagged_transfers (paid D s n).rows
  own_rows trade_tax b s cur n = (refl, tt)
  own_rows period b s cur n = tt
  own_rows allowance_charge b s cur n = charge_rows s n b
  own_rows logistics_charge b s cur n = tt
  own_rows payment_terms b s cur n = tt
  own_rows summation b s cur n = tt
  own_rows preceding_invoice b s cur n = (refl, tt)
  own_rows accounting b s cur n = tt
  own_rows other b s cur n = tt

  pub held_rows : (s : State X) (n : N) → Tagged (home (kind_of D n)) (holds_of L D s n)
  unfolding holds_of act
  held_rows s n = own_rows (home (kind_of D n)) _ _ _ n

  other_held : {l : Kind} → other ≡ l → (b : Bool) (s : Of X l) (cur : Currencies X) (n : N) → (own L D l b s cur n).holds ≡ []
  unfolding own
  other_held e = subst (λ (l : Kind). (b : Bool) (s : Of X l) (cur : Currencies X) (n : N) → (own L D l b s cur n).holds ≡ []) e (λ b s cur n. refl)

  other_rows : (s : State X) (n : N) → kind_of D n ≡ other → holds_of L D s n ≡ []
  unfolding holds_of act
  other_rows s n e = other_held (sym (home_other e)) _ _ _ n

  -- at most one of the two makes rows of the kind j
  held_one : (x y : N) (f : Free L D x y) (s : State X) (j : ℕ) → (of_kind j (holds_of L D s x) ≡ []) ⊎ (of_kind j (holds_of L D s y) ≡ [])
  unfolding of_kind keep
  held_one x y f s j = go (Kind-discrete (row_lane j) (home (kind_of D x))) f.lanes
    where
      go : Dec (row_lane j ≡ home (kind_of D x)) → Lanes L D x y → (of_kind j (holds_of L D s x) ≡ []) ⊎ (of_kind j (holds_of L D s y) ≡ [])
      go (no h) o = inl (tagged_none j (home (kind_of D x)) (holds_of L D s x) (held_rows s x) h)
      go (yes h) (inl e) =
          inr
          (tagged_none j (home (kind_of D y)) (holds_of L D s y) (held_rows s y) (λ i. true≢false (sym (same_kind_refl (home (kind_of D x))) ∙ ap (same_kind (home (kind_of D x))) (sym h ∙ i) ∙ e)))
      go (yes h) (inr e) = inl (ap (of_kind j) (other_rows s x e.0))

  module _ (t : Total (unmapped_order D)) (x y : N) (f : Free L D x y) (g : Free L D y x) (pre post : List N) where
    same_state : after L D (pre ++ x ∷ y ∷ post) ≡ after L D (pre ++ y ∷ x ∷ post)
    unfolding after
    same_state = run_swap (step L D) (says_of L D) x y (apart L D x y f g) (blank X) pre post

    -- the readings are alike
    pub exchange : Alike (reading_of L D (pre ++ x ∷ y ∷ post)) (reading_of L D (pre ++ y ∷ x ∷ post))
    unfolding reading_of of_kind
    exchange =
        record {
          terms = ap (terms_of) same_state;
          held = λ j. crossed_keep _ (crossed (step L D) (holds_of L D) x y ax (record { fst = holds_same L D x y f; snd = holds_same L D y x g }) (blank X) pre post) (held_one x y f (foldl (step L D) (blank X) pre) j);
          unmapped =
              crossed_sorted (unmapped_order D) t [] (crossed (step L D) (strays_of L D) x y ax (record { fst = strays_same L D x y f; snd = strays_same L D y x g }) (blank X) pre post);
          entries =
              rw same_state
              (Perm.append_right _ (crossed_perm (crossed (step L D) (says_of L D) x y ax (record { fst = says_same L D x y f; snd = says_same L D y x g }) (blank X) pre post)));
        }
      where
        ax : Apart (step L D) x y
        ax = apart L D x y f g
