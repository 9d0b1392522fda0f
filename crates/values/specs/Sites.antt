-- What the code's values mean, and what a percentage or a date says whose trimmed text stands at a place: `percent_spelled` and `date_spelled` (proofs/Spelled.antt) join that to `percent_of` and `date_from`.
use Rattle.text.specs.Options.{option_of}
use Rattle.std.specs.Prelude.{Bool, true, cond, List, [], ◌∷◌, ℕ, ℤ}
use Rattle.std.proofs.Math.Option.{Option, none, some}
use Rattle.text.specs.Answer.{Answer}
use Rattle.text.specs.Utf8.{bytes}
use Rattle.amount.specs.Percentage.{percentage_of}
use Rattle.date.specs.Date as Calendar
use Rattle.codes.specs.DateFormat.{date_format}
use Rattle.codes.specs.Vat.{vat}
use Rattle.codes.specs.declared.rules.Rule.{Rule}
use Rattle.names.specs.declared.message.Message.{Message}
use Rattle.names.specs.declared.path.Path.{Path}
use Rattle.report.specs.Rows.{Place, Entry}
use Rattle.settlement.specs.Document.{Doc, maybe}
use Rattle.settlement.specs.TableDoc.{shows}
use Rattle.settlement.specs.Values.{Lent, Site, Says, site, entry, missing, percent_message, date_message, date_from, other_spelling, date_in}
use Rattle.values.specs.declared.saying.Site as Code
use Rattle.values.specs.declared.lent.Lent as CodeLent
use Rattle.values.specs.declared.dates.DatePaths.{DatePaths}

-- where an entry is made
abbrev pub site_of : Code.Site → Site
site_of s = record { path = s.path; term = option_of s.term; index = option_of s.index }

-- what is lent beside the table, with any invoice currency
abbrev pub lent_for : CodeLent.Lent → List ℕ → Lent
lent_for l currency = record { mode = l.mode; rules = l.rules; currency = currency; extension = l.extension }

-- with its own
abbrev pub lent_of : CodeLent.Lent → Lent
lent_of l = lent_for l l.currency.now

-- what the parse of a trimmed text at a place answered: the value, or its message with that text
unfoldable pub answered_at : {A : Type 0} → (ℕ → Message) → Site → Place → Answer A → Says Place (Option A)
answered_at m s p a = maybe (none, entry (m a.message) s (some p) ∷ []) (λ v. (some v, [])) a.value

-- the percentage that a trimmed text spells
unfoldable pub percent_at : List ℕ → Site → Place → Says Place (Option (ℤ × ℕ))
percent_at x s p = answered_at percent_message s p (percentage_of (shows x p))

-- the date
unfoldable pub day_at : List ℕ → Site → Place → Says Place (Option ℕ)
day_at x s p = answered_at date_message s p (Calendar.date_of (shows x p))

-- the date of an element whose trimmed text stands at a place; its format comes first
unfoldable pub date_at : Doc ℕ Place → List ℕ → Path → ℕ → Place → Says Place (Option ℕ)
date_at D x p e own =
    cond (maybe true (λ f. date_format (D.bytes f)) (D.attr e (bytes "format")))
    (day_at x (site p none) own)
    (none, entry Message.DateFormat (site p none) (some own) ∷ [])

-- a date element of the other spelling, or not
unfoldable pub spelling : ℕ → Doc ℕ Place → Bool → Path → ℕ → Says Place (Option ℕ)
spelling mode D b p e = cond b (other_spelling mode D p e) (date_from mode D p e)

-- the percentage in a text that may be absent; `percent_kid`, and so below, joins it to the definition of the reading
unfoldable pub percent_in : List ℕ → Site → Option Place → Says Place (Option (ℤ × ℕ))
percent_in x s o = maybe (none, []) (percent_at x s) o

-- the date in a child, if there is one
unfoldable pub date_of : ℕ → Doc ℕ Place → DatePaths → Option ℕ → Says Place (Option ℕ)
date_of mode D p o = maybe (none, []) (date_in mode D p.point p.time p.day) o

-- a required code: "" and message 9 where there is no text
unfoldable pub code_in : ℕ → Rule → Site → Option Place → Says Place Place
code_in rules r s o = maybe (record { start = 0; len = 0 }, missing rules r s) (λ p. (p, [])) o

-- message 8 where a type code is present and not VAT
unfoldable pub not_vat_in : List ℕ → Site → Option Place → List (Entry Place)
not_vat_in x s o = maybe [] (λ p. cond (vat (shows x p)) [] (entry Message.NotVat s (some p) ∷ [])) o
