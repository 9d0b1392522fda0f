-- The readings of single values: texts, amounts, percentages, dates and codes (document 01, `read.rs`).
use Rattle.std.specs.Prelude.{Bool, true, cond, ◌||◌, List, [], ◌∷◌, ℕ, ◌-◌, eqb, ℤ, pos}
use Rattle.std.proofs.Math.Option.{Option, none, some}
use Rattle.text.specs.Answer.{Answer}
use Rattle.text.specs.Order.{equal}
use Rattle.text.specs.Utf8.{bytes}
use Rattle.characters.specs.Trim.{trimmed, trim_of}
use Rattle.amount.specs.Amount.{parsed_amount}
use Rattle.amount.specs.Decimal.{empty}
use Rattle.amount.specs.Percentage.{parsed_percentage}
use Rattle.date.specs.Date.{parsed_date}
use Rattle.codes.specs.Currency.{listed}
use Rattle.codes.specs.DateFormat.{date_format}
use Rattle.codes.specs.Rules.{in_force}
use Rattle.codes.specs.Vat as Code
use Rattle.codes.specs.declared.rules.Rule.{Rule}
use Rattle.names.specs.declared.message.Message.{Message}
use Rattle.names.specs.declared.path.Path.{Path}
use Rattle.names.specs.declared.term.Term.{Term}
use Rattle.report.specs.Rows.{Entry}
use Rattle.settlement.specs.Document.{Doc, maybe, or}

-- what is lent beside the table: mode, rules number, invoice currency (none where empty), and whether the specification identifier is that of a conformant extension (document 01, `read.rs`: a logistics charge)
pub record Lent : Type 0 where
  pub mode : ℕ
  pub rules : ℕ
  pub currency : List ℕ
  pub extension : Bool

-- where an entry is made: path, term, and the index of the term's group
pub record Site : Type 0 where
  pub path : Path
  pub term : Option Term
  pub index : Option ℕ

-- a site without a group
abbrev pub site : Path → Option Term → Site
site p t = record { path = p; term = t; index = none }

-- a site in the group of an index
abbrev pub grouped : Path → Option Term → ℕ → Site
grouped p t g = record { path = p; term = t; index = some g }

-- an answer with what is to be said
abbrev pub Says : Type 0 → Type 0 → Type 0
Says X A = A × List (Entry X)

-- the messages of document 01's numbers: amounts 3, 4, 5; percentages 6, 7; dates 12, 13
unfoldable pub amount_message : ℕ → Message
amount_message n = cond (eqb n 4) Message.TooManyDecimals (cond (eqb n 5) Message.AmountOutOfRange Message.AmountMalformed)

-- of a percentage
unfoldable pub percent_message : ℕ → Message
percent_message n = cond (eqb n 7) Message.TooManyDigits Message.NotADecimal

-- of a date
unfoldable pub date_message : ℕ → Message
date_message n = cond (eqb n 13) Message.NoSuchDay Message.NotCcyymmdd

-- an entry at a site
unfoldable pub entry : {X : Type 0} → Message → Site → Option X → Entry X
entry m s v = record { message = m; path = s.path; term = s.term; index = s.index; value = v }

-- message 9 for a required term, where its rule is in force
unfoldable pub missing : {X : Type 0} → ℕ → Rule → Site → List (Entry X)
missing rules r s = cond (in_force rules r) (entry Message.Missing s none ∷ []) []

module _ {N X : Type 0} (D : Doc N X) where
  -- a text as a mode trims it
  unfoldable pub trim_in : ℕ → X → X
  trim_in mode x = D.cut x (trimmed mode (D.bytes x)).start ((trimmed mode (D.bytes x)).end - (trimmed mode (D.bytes x)).start)

  -- the same, absent where that leaves nothing
  unfoldable pub filled : ℕ → X → Option X
  filled mode x = cond (empty (trim_of mode (D.bytes x))) none (some (trim_in mode x))

  -- an element's text, trimmed; blank is absent (`xml.rs`)
  unfoldable pub text_in : ℕ → N → Option X
  text_in mode n = maybe none (filled mode) (D.text n)

  -- the same, kept as "" where it is blank
  unfoldable pub own_text : ℕ → N → X
  own_text mode n = or D.empty (text_in mode n)

  -- its bytes, untrimmed
  unfoldable pub text_bytes : N → List ℕ
  text_bytes n = maybe [] D.bytes (D.text n)

  -- the first of a name
  unfoldable pub first : List ℕ → List N → Option N
  first w [] = none
  first w (c ∷ cs) = cond (equal (D.bytes (D.name c)) w) (some c) (first w cs)

  -- the first child of a name
  unfoldable pub kid : N → List ℕ → Option N
  kid n w = first w (D.kids n)

  -- its text
  unfoldable pub kid_text : ℕ → N → List ℕ → Option X
  kid_text mode n w = maybe none (text_in mode) (kid n w)

  -- an attribute, trimmed, empty being none
  unfoldable pub attribute : N → List ℕ → Option X
  attribute n a = maybe none (filled 0) (D.attr n a)

  -- message 8 where a type code is present and not VAT
  unfoldable pub not_vat : Site → N → List (Entry X)
  not_vat s n = maybe [] (λ x. cond (Code.vat (D.bytes x)) [] (entry Message.NotVat s (some x) ∷ [])) (kid_text 0 n (bytes "TypeCode"))

-- a required code: absent is message 9 with the group's full path, and the placeholder ""
unfoldable pub required_code : {N X : Type 0} → ℕ → Doc N X → Rule → Site → N → List ℕ → Says X X
required_code rules D r s n w = maybe (D.empty, missing rules r s) (λ x. (x, [])) (kid_text D 0 n w)

module _ {N X : Type 0} (mode : ℕ) (D : Doc N X) where
  -- what the parse of an element's text answered: the value, or its message with the text as the mode trims it
  unfoldable pub answered : {A : Type 0} → (ℕ → Message) → Site → N → Answer A → Says X (Option A)
  answered m s e a = maybe (none, entry (m a.message) s (some (own_text D mode e)) ∷ []) (λ v. (some v, [])) a.value

  -- percentage: no text, no entry; then the parse
  unfoldable pub percent_of : Site → N → Says X (Option (ℤ × ℕ))
  percent_of s e = maybe (none, []) (λ x. answered percent_message s e (parsed_percentage mode (text_bytes D e))) (text_in D mode e)

  -- of the first child of a name
  unfoldable pub percent : Site → N → List ℕ → Says X (Option (ℤ × ℕ))
  percent s n w = maybe (none, []) (percent_of s) (kid D n w)

  -- a date element: format 102 exactly or missing (11), CCYYMMDD (12), a day (13); entries show the text
  unfoldable pub date_from : Path → N → Says X (Option ℕ)
  date_from p e =
      cond (maybe true (λ f. date_format (D.bytes f)) (D.attr e (bytes "format")))
      (answered date_message (site p none) e (parsed_date mode (text_bytes D e)))
      (none, entry Message.DateFormat (site p none) (some (own_text D mode e)) ∷ [])

  -- message 10 for the other spelling, and reading goes on
  unfoldable pub other_spelling : Path → N → Says X (Option ℕ)
  other_spelling p e = ((date_from p e).0, entry Message.OtherDateElement (site p none) (some (own_text D mode e)) ∷ (date_from p e).1)

  -- DateTimeString, else DateString; which of them is the other spelling
  unfoldable pub date_in : Bool → Path → Path → N → Says X (Option ℕ)
  date_in b p q w =
      maybe (maybe (none, []) (λ e. cond b (date_from q e) (other_spelling q e)) (kid D w (bytes "DateString")))
      (λ e. cond b (other_spelling p e) (date_from p e)) (kid D w (bytes "DateTimeString"))

  -- the date in a child: TaxPointDate (b) is a DateString, every other a DateTimeString
  unfoldable pub date : Bool → Path → Path → N → List ℕ → Says X (Option ℕ)
  date b p q n w = maybe (none, []) (date_in b p q) (kid D n w)

-- the amount that an element's text spells
unfoldable pub parsed : {N X : Type 0} → ℕ → Doc N X → Site → N → Says X (Option ℤ)
parsed mode D s e = answered mode D amount_message s e (parsed_amount mode (text_bytes D e))

-- what is wrong with a currencyID beside an invoice currency: it is not listed (1), or another (2)
unfoldable pub wrong_currency : List ℕ → List ℕ → Option Message
wrong_currency currency c = cond (listed c) (cond (empty currency || equal currency c) none (some Message.OtherCurrency)) (some Message.UnlistedCurrency)

module _ {N X : Type 0} (mode : ℕ) (currency : List ℕ) (D : Doc N X) where
  -- an amount with a currency beside it
  unfoldable pub in_currency : Site → N → X → Says X (Option ℤ)
  in_currency s e c = maybe (parsed mode D s e) (λ m. (none, entry m s (some c) ∷ [])) (wrong_currency currency (D.bytes c))

  -- with or without one
  unfoldable pub amount_from : Site → N → Says X (Option ℤ)
  amount_from s e = maybe (parsed mode D s e) (in_currency s e) (attribute D e (bytes "currencyID"))

  -- amount: no text, no entry; then currencyID; then the parse
  unfoldable pub amount_of : Site → N → Says X (Option ℤ)
  amount_of s e = maybe (none, []) (λ x. amount_from s e) (text_in D mode e)

  -- of the first child of a name
  unfoldable pub amount : Site → N → List ℕ → Says X (Option ℤ)
  amount s n w = maybe (none, []) (amount_of s) (kid D n w)

-- a required amount: absent is message 9 with the group's full path, failed is 0
unfoldable pub required_amount : {N X : Type 0} → Lent → Doc N X → Rule → Path → Site → N → List ℕ → Says X ℤ
required_amount L D r p s n w =
    maybe (pos 0, missing L.rules r (record { path = p; term = s.term; index = s.index }))
    (λ x. (or (pos 0) (amount L.mode L.currency D s n w).0, (amount L.mode L.currency D s n w).1)) (kid_text D L.mode n w)
