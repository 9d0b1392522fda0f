-- What the code's faults of a currency, what was heard, and missing amounts mean, and what an amount says whose trimmed text stands at a place: `amount_spelled` (proofs/Spelled.antt) joins that to `amount_from`.
use Rattle.std.specs.Prelude.{◌≡◌, List, [], ◌∷◌, ℕ, ℤ, pos}
use Rattle.std.proofs.Math.Option.{Option, none, some}
use Rattle.text.specs.Utf8.{bytes}
use Rattle.amount.specs.Amount as Money
use Rattle.codes.specs.declared.rules.Rule.{Rule}
use Rattle.names.specs.declared.path.Path.{Path}
use Rattle.report.specs.Rows.{Place}
use Rattle.report.specs.Values.{place_of}
use Rattle.settlement.specs.Document.{Doc, maybe, or}
use Rattle.settlement.specs.TableDoc.{shows}
use Rattle.settlement.specs.Values.{Lent, Site, Says, entry, missing, amount_message, wrong_currency, attribute, text_in, amount_of}
use Rattle.values.specs.Sites.{site_of, answered_at}
use Rattle.amounts.specs.declared.amounts.Required.{Required}
use Rattle.amounts.specs.declared.heard.Fault.{Fault}
use Rattle.amount.specs.declared.amount.InvoiceAmount.{InvoiceAmount}
use Rattle.report.specs.Values as values
use Rattle.std.specs.declared.option.Option as code
use Rattle.std.specs.Prelude.{Result, Ok, Err}

-- what was heard, said at a site: an amount, if there is one, or an entry about a text
abbrev pub saying : Result (code.Option InvoiceAmount) Fault → Site → Says Place (Option ℤ)
saying (Ok a) s = (values.amount_of a, [])
saying (Err f) s = (none, entry f.message s (some (place_of f.value)) ∷ [])

-- the amount that a trimmed text spells
unfoldable pub amount_at : List ℕ → Site → Place → Says Place (Option ℤ)
amount_at x s p = answered_at amount_message s p (Money.amount_of (shows x p))

-- beside a currency, which must be right
unfoldable pub amount_in : List ℕ → List ℕ → Site → Place → Place → Says Place (Option ℤ)
amount_in currency x s p id = maybe (amount_at x s p) (λ m. (none, entry m s (some id) ∷ [])) (wrong_currency currency (shows x id))

-- of an element, with or without a currency beside it
unfoldable pub amount_beside : List ℕ → Doc ℕ Place → List ℕ → Site → ℕ → Place → Says Place (Option ℤ)
amount_beside currency D x s e p = maybe (amount_at x s p) (amount_in currency x s p) (attribute D e (bytes "currencyID"))

-- of a child, if there is one; `amount_kid`, and `required_kid` below, join it to the definition of the reading
unfoldable pub amount_found : Lent → Doc ℕ Place → Site → Option ℕ → Says Place (Option ℤ)
amount_found L D s o = maybe (none, []) (amount_of L.mode L.currency D s) o

-- a required amount that is missing: 0, and message 9 with the path of its group
unfoldable pub missing_amount : ℕ → Required → Says Place ℤ
missing_amount rules q = (pos 0, missing rules q.rule (record { path = q.group; term = (site_of q.site).term; index = (site_of q.site).index }))

-- a required amount of a child, if there is one: missing where that has no text, failed is 0
unfoldable pub required_found : Lent → Doc ℕ Place → Required → Option ℕ → Says Place ℤ
required_found L D q o =
    let a = amount_found L D (site_of q.site) o in
    maybe (missing_amount L.rules q) (λ x. (or (pos 0) a.0, a.1)) (maybe none (text_in D L.mode) o)

-- what a required amount is asked by: its rule, the path of its group, and its site
pub record Wanted (q : Required) (r : Rule) (p : Path) (s : Site) : Type 0 where
  pub rule : q.rule ≡ r
  pub group : q.group ≡ p
  pub site : site_of q.site ≡ s
