-- Held rows without a state: each is made by its own child alone, and they come in the order of the children (document 01, "Rows": Held).
use mathlib.Core.Path.{◌≡◌, refl, sym, ap, ap₂, ◌∙◌}
use mathlib.Core.Bool.{Bool, true, false, cond, not, ◌&&◌, true≢false}
use mathlib.Core.List.{List, [], ◌∷◌, ◌++◌, map}
use mathlib.Core.Logic.{◌⊎◌, inl, inr, ◌≢◌}
use Prim.Native.Nat.{ℕ}
use Rattle.text.specs.Order.{equal}
use Rattle.text.specs.Utf8.{bytes, encode}
use Rattle.report.specs.Rows.{Held, vat, allowance, charge, preceding}
use Rattle.settlement.specs.Document.{Doc}
use Rattle.settlement.specs.Kinds.{Kind, trade_tax, allowance_charge, logistics_charge, preceding_invoice, same_kind, home, meant, kinds, kind_named}
use Rattle.settlement.specs.Shapes.{VatState, Counts, State, blank}
use Rattle.settlement.specs.Values.{Lent}
use Rattle.settlement.specs.Tax.{trade_tax_of, is_charge, allowance_charge_of, allowance_or_charge, logistics_read, logistics_left, logistics}
use Rattle.settlement.specs.Walk.{said}
use Rattle.settlement.specs.Settlement.{preceding_of, own, kind_of, seen, act, step, holds_of, reading_of}
use Rattle.settlement.specs.Alike.{keep, of_kind}
use Rattle.settlement.specs.Last.{is_named}
use Rattle.settlement.specs.ChildRows.{vat_row, preceding_row, allowance_charge_row, logistics_row, makes_allowance, makes_charge, charge_row}
use Rattle.settlement.proofs.Walks.{keep_append}
use Rattle.settlement.proofs.Lanes.{same_kind_eq, same_kind_refl, home_cases}
use Rattle.settlement.proofs.Exchange.{row_lane, tagged_none, held_rows}
use Rattle.settlement.proofs.Names.{kind_name, Own, own_of, kind_test, home_is, at_home}
use Rattle.settlement.proofs.PlainValues.{amount_is, required_is, code_is, percent_is, date_is, category_is}

module _ {N X : Type 0} (L : Lent) (D : Doc N X) where
  -- where each child makes one row of a kind or none, by a test, those rows are those of the children that pass
  rows_of : (j : ℕ) (t : N → Bool) (r : N → Held X) → ((s : State X) (n : N) → of_kind j (holds_of L D s n) ≡ cond (t n) (r n ∷ []) []) → (s : State X) (cs : List N) → of_kind j (said (step L D) (holds_of L D) s cs) ≡ map r (keep t cs)
  unfolding said keep of_kind
  rows_of j t r h s [] = refl
  rows_of j t r h s (c ∷ cs) = keep_append _ (holds_of L D s c) _ ∙ ap₂ ◌++◌ (h s c) (rows_of j t r h (step L D s c) cs) ∙ go (t c)
    where
      go : (b : Bool) → cond b (r c ∷ []) [] ++ map r (keep t cs) ≡ map r (cond b (c ∷ keep t cs) (keep t cs))
      go true = refl
      go false = refl

  -- the rows of a child of a kind
  pub holds_as : (s : State X) (n : N) (k : Kind) → kind_of D n ≡ k → holds_of L D s n ≡ (own L D (home k) (same_kind k logistics_charge) (s (home k)) (seen k s) n).holds
  unfolding holds_of act
  holds_as s n k e = ap (λ (i : Kind). (own L D (home i) (same_kind i logistics_charge) (s (home i)) (seen i s) n).holds) e

  -- a child of another lane makes none
  pub holds_none : (j : ℕ) (s : State X) (n : N) → row_lane j ≢ home (kind_of D n) → of_kind j (holds_of L D s n) ≡ []
  holds_none j s n h = tagged_none j (home (kind_of D n)) (holds_of L D s n) (held_rows L D s n) h

  -- a kind with a lane of its own: each child of its name makes its row, and no other does
  rows_named : (j : ℕ) (k : Kind) (r : N → Held X) → row_lane j ≡ k → Own k →
      ((s : State X) (n : N) → of_kind j (own L D (home k) (same_kind k logistics_charge) (s (home k)) (seen k s) n).holds ≡ r n ∷ []) →
      (cs : List N) → of_kind j (reading_of L D cs).held ≡ map r (keep (is_named D (kind_name k)) cs)
  unfolding reading_of
  rows_named j k r lane o one cs = rows_of j (is_named D (kind_name k)) r (λ s n. rw (← (at_home L D k o n)) (go s n (same_kind k (home (kind_of D n))) refl)) (blank X) cs
    where
      go : (s : State X) (n : N) (b : Bool) → same_kind k (home (kind_of D n)) ≡ b → of_kind j (holds_of L D s n) ≡ cond b (r n ∷ []) []
      go s n true e = ap (of_kind j) (holds_as s n k (home_is L D (kind_of D n) k (sym (same_kind_eq k (home (kind_of D n)) e)) o.alone)) ∙ one s n
      go s n false e = holds_none j s n (λ p. true≢false (sym (same_kind_refl k) ∙ ap (same_kind k) (sym lane ∙ p) ∙ e))

  -- the row of one child, whatever the state is
  vat_one : (s : VatState X) (n : N) → (trade_tax_of L D s n).holds ≡ vat (vat_row L D n) ∷ []
  unfolding trade_tax_of vat_row
  vat_one s n = rw (required_is L D _ _ _ n (bytes "BasisAmount"), required_is L D _ _ _ n (bytes "CalculatedAmount"), code_is L.rules D _ _ n (bytes "CategoryCode"), percent_is L.mode D _ n (bytes "RateApplicablePercent"))

  preceding_one : (g : ℕ) (n : N) → (preceding_of L D g n).holds ≡ preceding (preceding_row L.mode D n) ∷ []
  unfolding preceding_of preceding_row
  preceding_one g n = rw (code_is L.rules D _ _ n (bytes "IssuerAssignedID"), date_is L.mode D _ _ _ n (bytes "FormattedIssueDateTime"))

  allowance_charge_one : (b : Bool) (g : ℕ) (n : N) → (allowance_charge_of L D b g n).0 ≡ cond b charge allowance (allowance_charge_row L D n)
  unfolding allowance_charge_of allowance_charge_row
  allowance_charge_one b g n =
      rw (required_is L D _ _ _ n (bytes "ActualAmount"), amount_is L.mode L.currency D _ n (bytes "BasisAmount"), percent_is L.mode D _ n (bytes "CalculationPercent"), category_is L D _ _ _ n (bytes "CategoryTradeTax"))

  logistics_charge_one : (s : Counts) (n : N) → (logistics L D s n).holds ≡ cond L.extension (charge (logistics_row L D n) ∷ []) []
  unfolding logistics logistics_read logistics_left logistics_row
  logistics_charge_one s n = go L.extension
    where
      go : (b : Bool) → (cond b (logistics_read L D s n) (logistics_left s)).holds ≡ cond b (charge (logistics_row L D n) ∷ []) []
      go true = rw (required_is L D _ _ _ n (bytes "AppliedAmount"), category_is L D _ _ _ n (bytes "AppliedTradeTax"))
      go false = refl

  -- the rows of an allowance or a charge, by its indicator
  by_indicator : (s : Counts) (n : N) → (allowance_or_charge L D s n).holds ≡ cond (is_charge D n).0 charge allowance (allowance_charge_row L D n) ∷ []
  unfolding allowance_or_charge
  by_indicator s n = ap (λ (r : Held X). r ∷ []) (allowance_charge_one (is_charge D n).0 _ n)

  -- the rows of a child, by its name
  charge_holds : (j : ℕ) → row_lane j ≡ allowance_charge → (s : State X) (n : N) → of_kind j (holds_of L D s n) ≡
      cond (is_named D "SpecifiedTradeAllowanceCharge" n) (of_kind j (cond (is_charge D n).0 charge allowance (allowance_charge_row L D n) ∷ []))
      (cond (is_named D "SpecifiedLogisticsServiceCharge" n) (of_kind j (cond L.extension (charge (logistics_row L D n) ∷ []) [])) [])
  unfolding own home same_kind kind_named meant kinds equal bytes encode
  charge_holds j lane s n =
      rw (← (kind_test L D allowance_charge refl (λ e. true≢false cc) n), ← (kind_test L D logistics_charge refl (λ e. true≢false cc) n))
      (go (same_kind (kind_of D n) allowance_charge) (same_kind (kind_of D n) logistics_charge) refl refl)
    where
      elsewhere : (home (kind_of D n) ≡ kind_of D n) ⊎ (kind_of D n ≡ logistics_charge) → same_kind (kind_of D n) allowance_charge ≡ false → same_kind (kind_of D n) logistics_charge ≡ false → row_lane j ≢ home (kind_of D n)
      elsewhere (inl p) e f q = true≢false (sym (ap (λ (i : Kind). same_kind i allowance_charge) (sym p ∙ sym q ∙ lane) ∙ same_kind_refl allowance_charge) ∙ e)
      elsewhere (inr p) e f q = true≢false (sym (ap (λ (i : Kind). same_kind i logistics_charge) p ∙ same_kind_refl logistics_charge) ∙ f)

      go : (a b : Bool) → same_kind (kind_of D n) allowance_charge ≡ a → same_kind (kind_of D n) logistics_charge ≡ b → of_kind j (holds_of L D s n) ≡
          cond a (of_kind j (cond (is_charge D n).0 charge allowance (allowance_charge_row L D n) ∷ []))
          (cond b (of_kind j (cond L.extension (charge (logistics_row L D n) ∷ []) [])) [])
      go true b e f = ap (of_kind j) (holds_as s n allowance_charge (same_kind_eq (kind_of D n) allowance_charge e) ∙ by_indicator (s allowance_charge) n)
      go false true e f = ap (of_kind j) (holds_as s n logistics_charge (same_kind_eq (kind_of D n) logistics_charge f) ∙ logistics_charge_one (s allowance_charge) n)
      go false false e f = holds_none j s n (elsewhere (home_cases (kind_of D n)) e f)

  allowance_one : (s : State X) (n : N) → of_kind 3 (holds_of L D s n) ≡ cond (makes_allowance L D n) (allowance (allowance_charge_row L D n) ∷ []) []
  unfolding makes_allowance row_lane of_kind keep
  allowance_one s n = charge_holds 3 refl s n ∙ go (is_named D "SpecifiedTradeAllowanceCharge" n) (is_named D "SpecifiedLogisticsServiceCharge" n) (is_charge D n).0 L.extension
    where
      go : (a b i c : Bool) →
          cond a (of_kind 3 (cond i charge allowance (allowance_charge_row L D n) ∷ [])) (cond b (of_kind 3 (cond c (charge (logistics_row L D n) ∷ []) [])) []) ≡
          cond (a && not i) (allowance (allowance_charge_row L D n) ∷ []) []
      go true b true c = refl
      go true b false c = refl
      go false true i true = refl
      go false true i false = refl
      go false false i c = refl

  charge_one : (s : State X) (n : N) → of_kind 4 (holds_of L D s n) ≡ cond (makes_charge L D n) (charge (charge_row L D n) ∷ []) []
  unfolding makes_charge charge_row row_lane of_kind keep
  charge_one s n = charge_holds 4 refl s n ∙ go (is_named D "SpecifiedTradeAllowanceCharge" n) (is_named D "SpecifiedLogisticsServiceCharge" n) (is_charge D n).0 L.extension
    where
      go : (a b i c : Bool) →
          cond a (of_kind 4 (cond i charge allowance (allowance_charge_row L D n) ∷ [])) (cond b (of_kind 4 (cond c (charge (logistics_row L D n) ∷ []) [])) []) ≡
          cond (cond a i (b && c)) (charge (cond a (allowance_charge_row L D n) (logistics_row L D n)) ∷ []) []
      go true b true c = refl
      go true b false c = refl
      go false true i true = refl
      go false true i false = refl
      go false false i c = refl

module _ {N X : Type 0} (L : Lent) (D : Doc N X) (cs : List N) where
  -- there is one VAT row for each ApplicableTradeTax, in order
  pub vat_rows : of_kind 2 (reading_of L D cs).held ≡ map (λ n. vat (vat_row L D n)) (keep (is_named D "ApplicableTradeTax") cs)
  unfolding row_lane own home same_kind of_kind keep
  vat_rows = rows_named L D 2 trade_tax (λ n. vat (vat_row L D n)) refl (own_of trade_tax tt) (λ s n. ap (of_kind 2) (vat_one L D (s trade_tax) n)) cs

  -- and one preceding invoice for each InvoiceReferencedDocument
  pub preceding_rows : of_kind 5 (reading_of L D cs).held ≡ map (λ n. preceding (preceding_row L.mode D n)) (keep (is_named D "InvoiceReferencedDocument") cs)
  unfolding row_lane own home same_kind of_kind keep
  preceding_rows = rows_named L D 5 preceding_invoice (λ n. preceding (preceding_row L.mode D n)) refl (own_of preceding_invoice tt) (λ s n. ap (of_kind 5) (preceding_one L D (s preceding_invoice) n)) cs

  -- an allowance for each SpecifiedTradeAllowanceCharge whose indicator does not say charge
  pub allowance_rows : of_kind 3 (reading_of L D cs).held ≡ map (λ n. allowance (allowance_charge_row L D n)) (keep (makes_allowance L D) cs)
  unfolding reading_of
  allowance_rows = rows_of L D 3 (makes_allowance L D) (λ n. allowance (allowance_charge_row L D n)) (allowance_one L D) (blank X) cs

  -- a charge for each whose indicator says so and, under the identifier of a conformant extension, for each logistics charge
  pub charge_rows : of_kind 4 (reading_of L D cs).held ≡ map (λ n. charge (charge_row L D n)) (keep (makes_charge L D) cs)
  unfolding reading_of
  charge_rows = rows_of L D 4 (makes_charge L D) (λ n. charge (charge_row L D n)) (charge_one L D) (blank X) cs
