-- The values that a child spells do not depend on where their entries are reported.
use mathlib.Core.Path.{◌≡◌, refl, sym, ap, ap₂, ◌∙◌}
use mathlib.Core.Bool.{Bool, true, false, cond}
use mathlib.Core.List.{List, [], ◌∷◌}
use mathlib.Core.Option.{Option, none, some}
use Prim.Native.Nat.{ℕ}
use lib.IntN.{ℤ, pos}
use Rattle.text.specs.Answer.{Answer}
use Rattle.text.specs.Utf8.{bytes}
use Rattle.amount.specs.Amount.{parsed_amount}
use Rattle.amount.specs.Percentage.{parsed_percentage}
use Rattle.codes.specs.DateFormat.{date_format}
use Rattle.codes.specs.declared.rules.Rule.{Rule}
use Rattle.date.specs.Date.{parsed_date}
use Rattle.names.specs.declared.message.Message.{Message}
use Rattle.names.specs.declared.path.Path.{Path}
use Rattle.settlement.specs.Document.{Doc, maybe, or_else, or}
use Rattle.settlement.specs.Values.{Lent, Site, site, Says, amount_message, percent_message, date_message, entry, missing, text_in, own_text, text_bytes, kid, kid_text, attribute, required_code, answered, percent_of, percent, date_from, other_spelling, date_in, date, parsed, wrong_currency, in_currency, amount_from, amount_of, amount, required_amount}
use Rattle.settlement.specs.Tax.{TaxPaths, GroupTerms, category_in, category_of}
use Rattle.settlement.specs.Summation.{is_none}
use Rattle.settlement.specs.ChildRows.{code_in, right_currency, amount_at, amount_in, percent_at, percent_in, day_at, day_in, category_and_rate, amount_or_zero}

-- the answer of an option's answers, what is said apart
answer_maybe : {A B C : Type 0} (b : B × C) (f : A → B × C) (g : A → B) (o : Option A) → ((a : A) → (f a).0 ≡ g a) → (maybe b f o).0 ≡ maybe b.0 g o
answer_maybe b f g none h = refl
answer_maybe b f g (some a) h = h a

answer_value : {A C : Type 0} (e f : C) (o : Option A) → (maybe {B = Option A × C} (none, e) (λ v. (some v, f)) o).0 ≡ o
answer_value e f none = refl
answer_value e f (some v) = refl

answer_refused : {A B C : Type 0} (p : Option B × C) (f : A → C) (o : Option A) → (maybe p (λ a. (none, f a)) o).0 ≡ cond (is_none o) p.0 none
answer_refused p f none = refl
answer_refused p f (some a) = refl

module _ {N X : Type 0} (mode : ℕ) (D : Doc N X) where
  -- what the parse answered
  pub answered_is : {A : Type 0} (m : ℕ → Message) (s : Site) (e : N) (a : Answer A) → (answered mode D m s e a).0 ≡ a.value
  unfolding answered
  answered_is m s e a = answer_value _ _ a.value

  -- percentages
  pub percent_is : (s : Site) (n : N) (w : List ℕ) → (percent mode D s n w).0 ≡ percent_in mode D n w
  unfolding percent percent_of percent_in percent_at
  percent_is s n w =
      answer_maybe (none, []) (percent_of mode D s) (percent_at mode D) (kid D n w)
      (λ e. answer_maybe (none, []) (λ x. answered mode D percent_message s e (parsed_percentage mode (text_bytes D e))) (λ x. (parsed_percentage mode (text_bytes D e)).value) (text_in D mode e) (λ x. answered_is percent_message s e (parsed_percentage mode (text_bytes D e))))

  -- dates
  from_is : (p : Path) (e : N) → (date_from mode D p e).0 ≡ day_at mode D e
  unfolding date_from day_at
  from_is p e = go (maybe true (λ f. date_format (D.bytes f)) (D.attr e (bytes "format")))
    where
      go : (b : Bool) → (cond b (answered mode D date_message (site p none) e (parsed_date mode (text_bytes D e))) (none, entry Message.DateFormat (site p none) (some (own_text D mode e)) ∷ [])).0 ≡ cond b (parsed_date mode (text_bytes D e)).value none
      go true = answered_is date_message (site p none) e (parsed_date mode (text_bytes D e))
      go false = refl

  spelt_is : (p : Path) (e : N) (b : Bool) → (cond b (date_from mode D p e) (other_spelling mode D p e)).0 ≡ day_at mode D e
  unfolding other_spelling
  spelt_is p e true = from_is p e
  spelt_is p e false = from_is p e

  pub date_is : (b : Bool) (p q : Path) (n : N) (w : List ℕ) → (date mode D b p q n w).0 ≡ day_in mode D n w
  unfolding date date_in day_in
  date_is b p q n w = answer_maybe (none, []) (date_in mode D b p q) _ (kid D n w) (λ d. go (kid D d (bytes "DateTimeString")) (kid D d (bytes "DateString")))
    where
      go : (o r : Option N) → (maybe (maybe (none, []) (λ e. cond b (date_from mode D q e) (other_spelling mode D q e)) r) (λ e. cond b (other_spelling mode D p e) (date_from mode D p e)) o).0 ≡ maybe none (day_at mode D) (or_else o r)
      go none none = refl
      go none (some e) = spelt_is q e b
      go (some e) r = turned b
        where
          turned : (b : Bool) → (cond b (other_spelling mode D p e) (date_from mode D p e)).0 ≡ day_at mode D e
          turned true = spelt_is p e false
          turned false = spelt_is p e true

module _ {N X : Type 0} (mode : ℕ) (currency : List ℕ) (D : Doc N X) where
  from_currency : (s : Site) (e : N) → (amount_from mode currency D s e).0 ≡ cond (right_currency currency D e) (parsed_amount mode (text_bytes D e)).value none
  unfolding amount_from in_currency parsed right_currency
  from_currency s e = go (attribute D e (bytes "currencyID")) ∙ ap (λ v. cond (right_currency currency D e) v none) (answered_is mode D amount_message s e (parsed_amount mode (text_bytes D e)))
    where
      go : (o : Option X) → (maybe (parsed mode D s e) (in_currency mode currency D s e) o).0 ≡ cond (maybe true (λ c. is_none (wrong_currency currency (D.bytes c))) o) (parsed mode D s e).0 none
      go none = refl
      go (some c) = answer_refused (parsed mode D s e) _ (wrong_currency currency (D.bytes c))

  -- amounts
  pub amount_is : (s : Site) (n : N) (w : List ℕ) → (amount mode currency D s n w).0 ≡ amount_in mode currency D n w
  unfolding amount amount_of amount_in amount_at
  amount_is s n w =
      answer_maybe (none, []) (amount_of mode currency D s) (amount_at mode currency D) (kid D n w)
      (λ e. answer_maybe (none, []) (λ x. amount_from mode currency D s e) (λ x. cond (right_currency currency D e) (parsed_amount mode (text_bytes D e)).value none) (text_in D mode e) (λ x. from_currency s e))

  -- no text, no amount
  no_amount : (n : N) (w : List ℕ) → kid_text D mode n w ≡ none → amount_in mode currency D n w ≡ none
  unfolding kid_text amount_in amount_at
  no_amount n w h = go (kid D n w) h
    where
      go : (o : Option N) → maybe none (text_in D mode) o ≡ none → maybe none (amount_at mode currency D) o ≡ none
      go none i = refl
      go (some e) i = ap (λ (t : Option X). maybe none (λ x. cond (right_currency currency D e) (parsed_amount mode (text_bytes D e)).value none) t) i

-- required codes
pub code_is : {N X : Type 0} (rules : ℕ) (D : Doc N X) (r : Rule) (s : Site) (n : N) (w : List ℕ) → (required_code rules D r s n w).0 ≡ code_in D n w
unfolding required_code code_in
code_is {N} {X} rules D r s n w = go (kid_text D 0 n w)
  where
    go : (o : Option X) → (maybe {B = Says X X} (D.empty, missing rules r s) (λ x. (x, [])) o).0 ≡ or D.empty o
    go none = refl
    go (some x) = refl

module _ {N X : Type 0} (L : Lent) (D : Doc N X) where
  -- required amounts
  pub required_is : (r : Rule) (p : Path) (s : Site) (n : N) (w : List ℕ) → (required_amount L D r p s n w).0 ≡ amount_or_zero L D n w
  unfolding required_amount amount_or_zero
  required_is r p s n w = go (kid_text D L.mode n w) refl
    where
      go : (o : Option X) → kid_text D L.mode n w ≡ o → (maybe {B = Says X ℤ} (pos 0, missing L.rules r (record { path = p; term = s.term; index = s.index })) (λ x. (or (pos 0) (amount L.mode L.currency D s n w).0, (amount L.mode L.currency D s n w).1)) o).0 ≡ or (pos 0) (amount_in L.mode L.currency D n w)
      go none e = sym (ap (or (pos 0)) (no_amount L.mode L.currency D n w e))
      go (some x) e = ap (or (pos 0)) (amount_is L.mode L.currency D s n w)

  -- category and rate
  pub category_is : (p : TaxPaths) (t : GroupTerms) (g : ℕ) (n : N) (w : List ℕ) → (category_of L D p t g n w).0 ≡ category_and_rate L.mode D n w
  unfolding category_of category_in category_and_rate
  category_is p t g n w = answer_maybe _ (category_in L D p t g) _ (kid D n w) (λ e. ap₂ (λ (k : X) (r : Option (ℤ × ℕ)). (k, r)) (code_is L.rules D _ _ e (bytes "CategoryCode")) (percent_is L.mode D _ e (bytes "RateApplicablePercent")))
