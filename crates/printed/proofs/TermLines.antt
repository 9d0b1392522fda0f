-- The lines made of the answer's row are those of its groups and terms.
use mathlib.Core.Path.{◌≡◌, refl, ap, ◌∙◌}
use mathlib.Core.Bool.{Bool, true, false, not}
use mathlib.Core.List.{List, [], ◌∷◌, ◌++◌, map}
use mathlib.Core.Option
use mathlib.Core.Option.{Option, none, some}
use Prim.Native.Nat.{ℕ}
use lib.IntN.{ℤ}
use Rattle.text.specs.Utf8.{bytes}
use Rattle.report.specs.Rows.{Place}
use Rattle.report.specs.Encoding.{text_start, text_length, text_cells, present, hundredths, or_absent}
use Rattle.settlement.specs.Document.{maybe}
use Rattle.settlement.specs.Shapes.{Identifier, Payee, Means, unset, card, debit, transfers, Period, Terms}
use Rattle.settlement.specs.Summation.{is_none}
use Rattle.settlement.specs.TableDoc.{shows}
use Rattle.settlement.specs.Shown.{map_identifier, map_payee, map_means, map_terms}
use Rattle.settlement.specs.Result.{flag, identifier_cells, payee_cells, period_cells, means_cells, totals_cells, terms_row}
use Rattle.decimals.specs.Decimal.{decimal, natural}
use Rattle.fields.specs.Line.{printable, line}
use Rattle.fields.specs.Columns.{text_shown, amount_shown, date_shown, shown}
use Rattle.printed.specs.Printed.{group_line, term_line, identifier_line, text_line, number_line, amount_line, is_card, is_debit, card_number, card_holder, debited_account, group_lines, term_lines}
use Rattle.printed.specs.Numbers.{there, has_scheme, groups, terms, group_numbers, term_with, scheme_shown, term_numbers}
use Rattle.printed.proofs.Values.{text-shown, amount-shown, date-shown}

-- the parts of a group that may be absent
abbrev content_of : {X : Type 0} → Option (Identifier X) → Option X
content_of i = Option.map (λ j. j.content) i

abbrev scheme_of : {X : Type 0} → Option (Identifier X) → Option X
scheme_of i = maybe none (λ j. j.scheme) i

abbrev name_of : {X : Type 0} → Option (Payee X) → Option X
name_of p = maybe none (λ q. q.name) p

abbrev identifier_of : {X : Type 0} → Option (Payee X) → Option (Identifier X)
identifier_of p = maybe none (λ q. q.identifier) p

abbrev legal_of : {X : Type 0} → Option (Payee X) → Option (Identifier X)
legal_of p = maybe none (λ q. q.legal) p

abbrev start_of : Option Period → Option ℕ
start_of p = maybe none (λ q. q.start) p

abbrev end_of : Option Period → Option ℕ
end_of p = maybe none (λ q. q.end) p

-- the numbers of a group are those of its parts, whether it is there or not
abbrev identifier_parts : Option (Identifier Place) → List ℤ
identifier_parts i = text_cells (content_of i) ++ text_cells (scheme_of i)

identifier-parts : (i : Option (Identifier Place)) → identifier_cells i ≡ identifier_parts i
identifier-parts none = refl
identifier-parts (some i) = refl

payee_parts : (p : Option (Payee Place)) → payee_cells p ≡ flag (not (is_none p)) ∷ text_cells (name_of p) ++ identifier_parts (identifier_of p) ++ identifier_parts (legal_of p)
payee_parts none = refl
payee_parts (some p) = rw (identifier-parts p.identifier, identifier-parts p.legal)

period_parts : (p : Option Period) → period_cells p ≡ flag (not (is_none p)) ∷ or_absent (start_of p) ∷ or_absent (end_of p) ∷ []
period_parts none = refl
period_parts (some p) = refl

means_parts : (m : Means Place) → means_cells m ≡ flag (is_card m) ∷ text_cells (card_number m) ++ text_cells (card_holder m) ++ flag (is_debit m) ∷ text_cells (debited_account m)
means_parts unset = refl
means_parts (card a b) = refl
means_parts (debit a) = refl
means_parts transfers = refl

-- the terms' numbers, so written
abbrev parts : Terms Place → List ℤ
parts t =
    text_cells t.bt5 ++
    text_cells t.bt6 ++
    or_absent t.bt7 ∷
    or_absent t.bt8 ∷
    or_absent t.bt9 ∷
    text_cells t.bt19 ++
    text_cells t.bt20 ++
    flag (not (is_none t.payee)) ∷
    text_cells (name_of t.payee) ++
    identifier_parts (identifier_of t.payee) ++
    identifier_parts (legal_of t.payee) ++
    flag (not (is_none t.period)) ∷
    or_absent (start_of t.period) ∷
    or_absent (end_of t.period) ∷
    flag t.paid ∷
    text_cells t.bt81 ++
    text_cells t.bt82 ++
    text_cells t.bt83 ++
    flag (is_card t.means) ∷
    text_cells (card_number t.means) ++
    text_cells (card_holder t.means) ++
    flag (is_debit t.means) ∷
    text_cells (debited_account t.means) ++
    text_cells t.bt89 ++
    text_cells t.bt90 ++
    totals_cells t.totals

pub row_parts : (t : Terms Place) → terms_row t ≡ parts t
unfolding terms_row
row_parts t = rw (payee_parts t.payee, period_parts t.period, means_parts t.means)

-- whether a group is there
there_flag : (b : Bool) → there (flag b) ≡ b
unfolding natural
there_flag true = refl
there_flag false = refl

-- a term with no scheme
with_none : (n : ℕ) (o : Option (List ℕ)) → term_with n o none ≡ term_line n o
unfolding term_with
with_none n none = refl
with_none n (some s) = refl

module _ (n : ℕ) where
  number-line : (d : Option ℕ) → term_with n (date_shown (or_absent d)) none ≡ number_line n d
  number-line d = rw (date-shown d) (with_none n _)

  amount-line : (a : Option ℤ) → term_with n (amount_shown (present a) (hundredths a)) none ≡ amount_line n a
  amount-line a = rw (amount-shown a) (with_none n _)

  text-line : (x : List ℕ) (t : Option Place) → term_with n (text_shown x (text_start t) (text_length t)) none ≡ text_line n (Option.map (shows x) t)
  text-line x t = rw (text-shown x t) (with_none n _)

  -- a term with its scheme
  identifier-line : (x : List ℕ) (i : Option (Identifier Place)) → term_with n (text_shown x (text_start (content_of i)) (text_length (content_of i))) (text_shown x (text_start (scheme_of i)) (text_length (scheme_of i))) ≡ identifier_line n (Option.map (map_identifier (shows x)) i)
  unfolding term_with map_identifier
  identifier-line x none = rw (text-shown x none)
  identifier-line x (some i) = rw (text-shown x (some i.content), text-shown x i.scheme) (ap (λ (l : List (List ℕ)). line "term" ((bytes "BT-" ++ decimal n) ∷ printable (shows x i.content) ∷ l)) (go (Option.map (shows x) i.scheme)))
    where
      go : (s : Option (List ℕ)) → maybe [] (λ t. t ∷ []) (Option.map printable s) ≡ maybe [] (λ t. printable t ∷ []) s
      go none = refl
      go (some s) = refl

-- the parts of what the places show
module _ {X Y : Type 0} (f : X → Y) where
  name-of : (p : Option (Payee X)) → Option.map f (name_of p) ≡ name_of (Option.map (map_payee f) p)
  unfolding map_payee
  name-of none = refl
  name-of (some p) = refl

  identifier-of : (p : Option (Payee X)) → Option.map (map_identifier f) (identifier_of p) ≡ identifier_of (Option.map (map_payee f) p)
  unfolding map_payee
  identifier-of none = refl
  identifier-of (some p) = refl

  legal-of : (p : Option (Payee X)) → Option.map (map_identifier f) (legal_of p) ≡ legal_of (Option.map (map_payee f) p)
  unfolding map_payee
  legal-of none = refl
  legal-of (some p) = refl

  none_of : (p : Option (Payee X)) → is_none p ≡ is_none (Option.map (map_payee f) p)
  none_of none = refl
  none_of (some p) = refl

  means-of :
      (m : Means X) →
      (is_card m ≡ is_card (map_means f m)) ×
      (is_debit m ≡ is_debit (map_means f m)) ×
      (Option.map f (card_number m) ≡ card_number (map_means f m)) ×
      (Option.map f (card_holder m) ≡ card_holder (map_means f m)) ×
      (Option.map f (debited_account m) ≡ debited_account (map_means f m))
  unfolding map_means
  means-of unset = (refl, refl, refl, refl, refl)
  means-of (card a b) = (refl, refl, refl, refl, refl)
  means-of (debit a) = (refl, refl, refl, refl, refl)
  means-of transfers = (refl, refl, refl, refl, refl)

-- two lists, line by line
both : {A : Type 0} {a b : A} {l m : List A} → a ≡ b → l ≡ m → a ∷ l ≡ b ∷ m
both e f = rw (e, f)

-- five numbers before the terms' own
module _ (x : List ℕ) (number place held entries unmapped : ℤ) (t : Terms Place) where
  abbrev row : List ℤ
  row = number ∷ place ∷ held ∷ entries ∷ unmapped ∷ parts t

  pub group-lines : map (group_numbers row) groups ≡ group_lines (map_terms (shows x) t)
  unfolding group_numbers group_lines map_terms
  group-lines =
      let m = means-of (shows x) t.means in
      both (ap (group_line 10) (there_flag (not (is_none t.payee)) ∙ ap not (none_of (shows x) t.payee)))
      (both (ap (group_line 14) (there_flag (not (is_none t.period))))
      (both (ap (group_line 16) (there_flag t.paid))
      (both (ap (group_line 18) (there_flag (is_card t.means) ∙ m.0))
      (both (ap (group_line 19) (there_flag (is_debit t.means) ∙ m.1)) refl))))

  pub term-lines : map (term_numbers x row) terms ≡ term_lines (map_terms (shows x) t)
  unfolding term_numbers scheme_shown has_scheme shown term_lines map_terms
  term-lines =
      let m = means-of (shows x) t.means in
      both (text-line 5 x t.bt5)
      (both (text-line 6 x t.bt6)
      (both (number-line 7 t.bt7)
      (both (number-line 8 t.bt8)
      (both (number-line 9 t.bt9)
      (both (text-line 19 x t.bt19)
      (both (text-line 20 x t.bt20)
      (both (text-line 59 x (name_of t.payee) ∙ ap (text_line 59) (name-of (shows x) t.payee))
      (both (identifier-line 60 x (identifier_of t.payee) ∙ ap (identifier_line 60) (identifier-of (shows x) t.payee))
      (both (identifier-line 61 x (legal_of t.payee) ∙ ap (identifier_line 61) (legal-of (shows x) t.payee))
      (both (number-line 73 (start_of t.period))
      (both (number-line 74 (end_of t.period))
      (both (text-line 81 x t.bt81)
      (both (text-line 82 x t.bt82)
      (both (text-line 83 x t.bt83)
      (both (text-line 87 x (card_number t.means) ∙ ap (text_line 87) m.2)
      (both (text-line 88 x (card_holder t.means) ∙ ap (text_line 88) m.3)
      (both (text-line 89 x t.bt89)
      (both (text-line 90 x t.bt90)
      (both (text-line 91 x (debited_account t.means) ∙ ap (text_line 91) m.4)
      (both (with_none 106 (some _))
      (both (amount-line 107 t.totals.allowance)
      (both (amount-line 108 t.totals.charge)
      (both (with_none 109 (some _))
      (both (amount-line 110 t.totals.vat)
      (both (amount-line 111 t.totals.vat_accounting)
      (both (with_none 112 (some _))
      (both (amount-line 113 t.totals.paid)
      (both (amount-line 114 t.totals.rounding)
      (both (with_none 115 (some _)) refl)))))))))))))))))))))))))))))
