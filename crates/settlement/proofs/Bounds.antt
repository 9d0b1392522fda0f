-- How many entries values, VAT breakdowns, allowances and charges make at most.
use mathlib.Core.Bool.{Bool, true, false, cond}
use mathlib.Core.List.{List, [], ◌∷◌}
use mathlib.Core.Option.{Option, none, some}
use Prim.Native.Nat.{ℕ, ◌+◌, ◌*◌, ◌≤◌, min}
use native.Mathlib.Omega.{arith}
use native.Mathlib.Nat.{add-le-add, le_trans}
use lib.ListN.{length, length-append}
use Rattle.text.specs.Answer.{Answer}
use Rattle.text.specs.Order.{equal}
use Rattle.text.specs.Utf8.{bytes}
use Rattle.codes.specs.DateFormat.{date_format}
use Rattle.codes.specs.Rules.{in_force}
use Rattle.codes.specs.Vat.{vat}
use Rattle.codes.specs.declared.rules.Rule.{Rule}
use Rattle.names.specs.declared.message.Message.{Message}
use Rattle.names.specs.declared.path.Path.{Path}
use Rattle.report.specs.Rows.{Entry}
use Rattle.settlement.specs.Document.{Doc, maybe}
use Rattle.settlement.specs.Shapes.{VatState, Counts}
use Rattle.settlement.specs.Values.{Lent, Site, grouped, Says, text_in, first, kid, kid_text, attribute, missing, answered, wrong_currency, parsed, in_currency, amount_from, amount_of, amount, required_amount, required_code, percent_of, percent, not_vat, date_from, other_spelling, date_in, date}
use Rattle.settlement.specs.Tax.{TaxPaths, GroupTerms, point_date, fresh_code, again_code, point_code, trade_tax_of, category_in, category_of, indicated, indicator, is_charge, allowance_charge_of, allowance_or_charge, logistics_read, logistics_left, logistics}

-- 1 where there is something
abbrev pub one : {A : Type 0} → Option A → ℕ
one none = 0
one (some a) = 1

-- that is at most 1
pub one_most : {A : Type 0} (o : Option A) → one o ≤ 1
one_most none = omega arith
one_most (some a) = omega arith

-- and no more where a further question is asked
one_maybe : {A B : Type 0} (f : A → Option B) (o : Option A) → one (maybe none f o) ≤ one o
one_maybe f none = omega arith
one_maybe f (some a) = one_most (f a)

-- a choice says no more than its branches do
module _ {X A B : Type 0} where
  -- by what is there
  pub maybe_most : (k : ℕ) (p : Says X B) (f : A → Says X B) (o : Option A) → length p.1 ≤ k → ((a : A) → length (f a).1 ≤ k) → length (maybe p f o).1 ≤ k
  maybe_most k p f none g h = g
  maybe_most k p f (some a) g h = h a

  -- at most one, where there is something
  maybe_one : (b : B) (f : A → Says X B) (o : Option A) → ((a : A) → length (f a).1 ≤ 1) → length (maybe (b, []) f o).1 ≤ one o
  maybe_one b f none h = omega arith
  maybe_one b f (some a) h = h a

  -- at most two
  maybe_two : (b : B) (f : A → Says X B) (o : Option A) → ((a : A) → length (f a).1 ≤ 2) → length (maybe (b, []) f o).1 ≤ 2 * one o
  maybe_two b f none h = omega arith
  maybe_two b f (some a) h = omega (arith, h a)

-- by a test
cond_most : {X B : Type 0} (k : ℕ) (t : Bool) (p q : Says X B) → length p.1 ≤ k → length q.1 ≤ k → length (cond t p q).1 ≤ k
cond_most k true p q g h = g
cond_most k false p q g h = h

module _ {X : Type 0} where
  -- one entry or none
  cond_list : (t : Bool) (e : Entry X) → length (cond t (e ∷ []) []) ≤ 1
  cond_list true e = omega arith
  cond_list false e = omega arith

  -- none or one entry
  cond_none : (t : Bool) (e : Entry X) → length (cond t [] (e ∷ [])) ≤ 1
  cond_none true e = omega arith
  cond_none false e = omega arith

  -- entries, by what is there
  pub list_most : {A : Type 0} (k : ℕ) (p : List (Entry X)) (f : A → List (Entry X)) (o : Option A) → length p ≤ k → ((a : A) → length (f a) ≤ k) → length (maybe p f o) ≤ k
  list_most k p f none g h = g
  list_most k p f (some a) g h = h a

  -- at most one entry, where there is something
  list_one : {A : Type 0} (f : A → List (Entry X)) (o : Option A) → ((a : A) → length (f a) ≤ 1) → length (maybe [] f o) ≤ one o
  list_one f none h = omega arith
  list_one f (some a) h = h a

module _ {N X : Type 0} (L : Lent) (D : Doc N X) where
  -- 1 where an element has children
  abbrev pub any : N → ℕ
  any n = min 1 (length (D.kids n))

  -- the first child of a name is a child
  first_any : (w : List ℕ) (cs : List N) → one (first D w cs) ≤ min 1 (length cs)
  unfolding first
  first_any w [] = omega arith
  first_any w (c ∷ cs) = omega (arith, one_most (first D w (c ∷ cs)))

  -- by its spelling
  kid_any : (n : N) (w : List ℕ) → one (kid D n w) ≤ any n
  unfolding kid
  kid_any n w = first_any _ (D.kids n)

  -- a child's text needs a child
  pub kid_text_any : (mode : ℕ) (n : N) (w : List ℕ) → one (kid_text D mode n w) ≤ any n
  unfolding kid_text
  kid_text_any mode n w = le_trans (one_maybe (text_in D mode) (kid D n w)) (kid_any n w)

  -- message 9 is one entry
  pub missing_most : (r : Rule) (s : Site) → length (missing {X = X} L.rules r s) ≤ 1
  unfolding missing
  missing_most r s = cond_list (in_force L.rules r) _

  -- a parse says at most one
  pub answered_most : {A : Type 0} (m : ℕ → Message) (s : Site) (e : N) (a : Answer A) → length (answered L.mode D m s e a).1 ≤ 1
  unfolding answered
  answered_most m s e a = maybe_most 1 _ _ a.value (omega arith) (λ v. omega arith)

  -- so does that of an amount
  parsed_most : (s : Site) (e : N) → length (parsed L.mode D s e).1 ≤ 1
  unfolding parsed
  parsed_most s e = answered_most _ s e _

  -- a wrong currency is said instead
  in_currency_most : (s : Site) (e : N) (c : X) → length (in_currency L.mode L.currency D s e c).1 ≤ 1
  unfolding in_currency
  in_currency_most s e c = maybe_most 1 _ _ (wrong_currency L.currency (D.bytes c)) (parsed_most s e) (λ m. omega arith)

  -- with a currency or without
  amount_from_most : (s : Site) (e : N) → length (amount_from L.mode L.currency D s e).1 ≤ 1
  unfolding amount_from
  amount_from_most s e = maybe_most 1 _ _ (attribute D e (bytes "currencyID")) (parsed_most s e) (in_currency_most s e)

  -- of an element
  amount_of_most : (s : Site) (e : N) → length (amount_of L.mode L.currency D s e).1 ≤ 1
  unfolding amount_of
  amount_of_most s e = maybe_most 1 _ _ (text_in D L.mode e) (omega arith) (λ x. amount_from_most s e)

  -- an amount says at most one, and none without children
  pub amount_any : (s : Site) (n : N) (w : List ℕ) → length (amount L.mode L.currency D s n w).1 ≤ any n
  unfolding amount
  amount_any s n w = le_trans (maybe_one none (amount_of L.mode L.currency D s) (kid D n w) (amount_of_most s)) (kid_any n w)

  -- a required amount at most one
  pub required_amount_most : (r : Rule) (p : Path) (s : Site) (n : N) (w : List ℕ) → length (required_amount L D r p s n w).1 ≤ 1
  unfolding required_amount
  required_amount_most r p s n w = maybe_most 1 _ _ (kid_text D L.mode n w) (missing_most r _) (λ x. omega (arith, amount_any s n w))

  -- a required code at most one
  pub required_code_most : (r : Rule) (s : Site) (n : N) (w : List ℕ) → length (required_code L.rules D r s n w).1 ≤ 1
  unfolding required_code
  required_code_most r s n w = maybe_most 1 _ _ (kid_text D 0 n w) (missing_most r s) (λ x. omega arith)

  -- a percentage at most one
  percent_of_most : (s : Site) (e : N) → length (percent_of L.mode D s e).1 ≤ 1
  unfolding percent_of
  percent_of_most s e = maybe_most 1 _ _ (text_in D L.mode e) (omega arith) (λ x. answered_most _ s e _)

  -- and none without children
  percent_any : (s : Site) (n : N) (w : List ℕ) → length (percent L.mode D s n w).1 ≤ any n
  unfolding percent
  percent_any s n w = le_trans (maybe_one none (percent_of L.mode D s) (kid D n w) (percent_of_most s)) (kid_any n w)

  -- message 8 needs a type code
  not_vat_any : (s : Site) (n : N) → length (not_vat D s n) ≤ any n
  unfolding not_vat
  not_vat_any s n = le_trans (list_one _ (kid_text D 0 n (bytes "TypeCode")) (λ x. cond_none (vat (D.bytes x)) _)) (kid_text_any 0 n (bytes "TypeCode"))

  -- a date element at most one
  date_from_most : (p : Path) (e : N) → length (date_from L.mode D p e).1 ≤ 1
  unfolding date_from
  date_from_most p e = cond_most 1 (maybe true (λ f. date_format (D.bytes f)) (D.attr e (bytes "format"))) _ _ (answered_most _ _ e _) (omega arith)

  -- the other spelling is one more
  other_spelling_most : (p : Path) (e : N) → length (other_spelling L.mode D p e).1 ≤ 2
  unfolding other_spelling
  other_spelling_most p e = omega (arith, date_from_most p e)

  -- a date at most two
  date_in_most : (b : Bool) (p q : Path) (w : N) → length (date_in L.mode D b p q w).1 ≤ 2
  unfolding date_in
  date_in_most b p q w =
      maybe_most 2 _ _ (kid D w (bytes "DateTimeString"))
      (maybe_most 2 _ _ (kid D w (bytes "DateString")) (omega arith) (λ e. cond_most 2 b _ _ (omega (arith, date_from_most q e)) (other_spelling_most q e)))
      (λ e. cond_most 2 b _ _ (other_spelling_most p e) (omega (arith, date_from_most p e)))

  -- and none without children
  pub date_any : (b : Bool) (p q : Path) (n : N) (w : List ℕ) → length (date L.mode D b p q n w).1 ≤ 2 * any n
  unfolding date
  date_any b p q n w = omega (arith, maybe_two none (date_in L.mode D b p q) (kid D n w) (date_in_most b p q), kid_any n w)

  -- a point date as any other
  point_date_any : (s : VatState X) (n : N) → length (point_date L.mode D s n).1 ≤ 2 * any n
  unfolding point_date
  point_date_any s n = maybe_most (2 * any n) _ _ s.point (date_any true _ _ n (bytes "TaxPointDate")) (λ d. omega arith)

  -- the first point code at most one
  fresh_code_most : (s : VatState X) (x : X) (a : Answer ℕ) → length (fresh_code D s x a).1 ≤ 1
  unfolding fresh_code
  fresh_code_most s x a = list_most 1 _ _ a.value (omega arith) (λ c. omega arith)

  -- a further one at most one
  again_code_most : (s : VatState X) (x f : X) → length (again_code D s x f).1 ≤ 1
  unfolding again_code
  again_code_most s x f = cond_none (equal (D.bytes f) (D.bytes x)) _

  -- none without children
  point_code_any : (s : VatState X) (n : N) → length (point_code D s n).1 ≤ any n
  unfolding point_code
  point_code_any s n =
      le_trans (maybe_one s _ (kid_text D 0 n (bytes "DueDateTypeCode")) (λ x. maybe_most 1 _ _ s.first (fresh_code_most s x _) (again_code_most s x))) (kid_text_any 0 n (bytes "DueDateTypeCode"))

  -- a VAT breakdown says at most three, and five more where it has children
  pub trade_tax_most : (s : VatState X) (n : N) → length (trade_tax_of L D s n).says ≤ 3 + 5 * any n
  unfolding trade_tax_of
  trade_tax_most s n =
      simp length-append
      (le_trans
      (add-le-add (point_date_any s n)
      (add-le-add (point_code_any s n)
      (add-le-add (required_amount_most _ _ _ n (bytes "BasisAmount"))
      (add-le-add (required_amount_most _ _ _ n (bytes "CalculatedAmount"))
      (add-le-add (not_vat_any _ n) (add-le-add (required_code_most _ _ n (bytes "CategoryCode")) (percent_any _ n (bytes "RateApplicablePercent"))))))))
      (omega arith))

  -- a VAT category at most three
  category_in_most : (p : TaxPaths) (t : GroupTerms) (g : ℕ) (n : N) → length (category_in L D p t g n).1 ≤ 3
  unfolding category_in
  category_in_most p t g n = simp length-append (le_trans (add-le-add (not_vat_any _ n) (add-le-add (required_code_most _ _ n (bytes "CategoryCode")) (percent_any _ n (bytes "RateApplicablePercent")))) (omega arith))

  -- an absent one is one entry
  category_of_most : (p : TaxPaths) (t : GroupTerms) (g : ℕ) (n : N) (w : List ℕ) → length (category_of L D p t g n w).1 ≤ 1 + 2 * any n
  unfolding category_of
  category_of_most p t g n w = go (kid D n w) (kid_any n w)
    where
      go : (o : Option N) → one o ≤ any n → length (maybe ((D.empty, none), missing L.rules t.category_rule (grouped p.parent t.category g)) (category_in L D p t g) o).1 ≤ 1 + 2 * any n
      go none h = omega (arith, missing_most t.category_rule (grouped p.parent t.category g))
      go (some e) h = omega (arith, category_in_most p t g e)

  -- an indicator at most one
  indicated_most : (i : N) (a : Answer Bool) → length (indicated D i a).1 ≤ 1
  unfolding indicated
  indicated_most i a = maybe_most 1 _ _ a.value (omega arith) (λ b. omega arith)

  -- an absent one is one entry
  is_charge_most : (n : N) → length (is_charge D n).1 ≤ 1
  unfolding is_charge
  is_charge_most n = maybe_most 1 _ _ (indicator D n) (omega arith) (λ i. indicated_most i _)

  -- category, amount, base and percentage
  allowance_charge_of_most : (b : Bool) (g : ℕ) (n : N) → length (allowance_charge_of L D b g n).1 ≤ 2 + 4 * any n
  unfolding allowance_charge_of
  allowance_charge_of_most b g n =
      simp length-append
      (le_trans
      (add-le-add (category_of_most _ _ g n (bytes "CategoryTradeTax")) (add-le-add (required_amount_most _ _ _ n (bytes "ActualAmount")) (add-le-add (amount_any _ n (bytes "BasisAmount")) (percent_any _ n (bytes "CalculationPercent")))))
      (omega arith))

  -- an allowance or a charge says at most three, and four more where it has children
  pub allowance_or_charge_most : (s : Counts) (n : N) → length (allowance_or_charge L D s n).says ≤ 3 + 4 * any n
  unfolding allowance_or_charge
  allowance_or_charge_most s n = simp length-append (le_trans (add-le-add (is_charge_most n) (allowance_charge_of_most _ _ n)) (omega arith))

  -- category and amount
  logistics_read_most : (s : Counts) (n : N) → length (logistics_read L D s n).says ≤ 2 + 2 * any n
  unfolding logistics_read
  logistics_read_most s n = simp length-append (le_trans (add-le-add (category_of_most _ _ _ n (bytes "AppliedTradeTax")) (required_amount_most _ _ _ n (bytes "AppliedAmount"))) (omega arith))

  -- a logistics charge says at most two, and two more where it has children
  pub logistics_most : (s : Counts) (n : N) → length (logistics L D s n).says ≤ 2 + 2 * any n
  unfolding logistics logistics_left
  logistics_most s n = go L.extension
    where
      go : (b : Bool) → length (cond b (logistics_read L D s n) (logistics_left s)).says ≤ 2 + 2 * any n
      go true = logistics_read_most s n
      go false = omega arith

  -- and holds at most one row
  pub logistics-row : (s : Counts) (n : N) → length (logistics L D s n).holds ≤ 1
  unfolding logistics logistics_read logistics_left
  logistics-row s n = go L.extension
    where
      go : (b : Bool) → length (cond b (logistics_read L D s n) (logistics_left s)).holds ≤ 1
      go true = omega arith
      go false = omega arith

  -- and no unmapped name
  pub logistics_stray : (s : Counts) (n : N) → length (logistics L D s n).strays ≤ 0
  unfolding logistics logistics_read logistics_left
  logistics_stray s n = go L.extension
    where
      go : (b : Bool) → length (cond b (logistics_read L D s n) (logistics_left s)).strays ≤ 0
      go true = omega arith
      go false = omega arith
