-- Laws of amounts whose text is trimmed once: what the trimmed text spells is what its element says.
use mathlib.Core.Path.{◌≡◌}
use mathlib.Core.List.{List}
use mathlib.Core.Option.{Option, none, some}
use Prim.Native.Nat.{ℕ}
use lib.IntN.{ℤ}
use Rattle.text.specs.Utf8.{bytes}
use Rattle.amount.specs.Amount as Money
use Rattle.codes.specs.declared.rules.Rule.{Rule}
use Rattle.names.specs.declared.message.Message.TheVariants as Message
use Rattle.names.specs.declared.path.Path.{Path}
use Rattle.report.specs.Rows.{Place}
use Rattle.settlement.specs.Document.{Doc, maybe}
use Rattle.settlement.specs.TableDoc.{shows}
use Rattle.settlement.specs.Values.{Lent, Site, site, text_in, own_text, kid, kid_text, answered, attribute, parsed, in_currency, amount_from, amount_of, amount, required_amount}
use Rattle.settlement.specs.Summation.{tax_amount}
use Rattle.element.specs.LinkDoc.{link_doc}
use Rattle.element.proofs.Documents.{own_shown, own_is}
use Rattle.values.specs.Sites.{site_of, answered_at}
use Rattle.values.specs.Told.{Told}
use Rattle.values.specs.declared.saying.Entries.{Entries}
use Rattle.amounts.specs.Amounts.{amount_at, amount_in, amount_beside, amount_found, missing_amount, required_found, Wanted}
use Rattle.amounts.specs.declared.amounts.Required.{Required}

module _ (t x l : List ℕ) (mode e : ℕ) where
  abbrev D : Doc ℕ Place
  D = link_doc t x l

  parsed_spelled : {p : Place} (s : Site) → p ≡ own_text D mode e → amount_at x s p ≡ parsed mode D s e
  unfolding amount_at answered_at answered Money.parsed_amount parsed
  parsed_spelled s q = rw (q, own_shown t x l mode e)

  -- an amount, where there is a text
  pub amount_spelled : {p : Place} (currency : List ℕ) (s : Site) → some p ≡ text_in D mode e → amount_beside currency D x s e p ≡ amount_from mode currency D s e
  unfolding amount_beside amount_from amount_in in_currency
  amount_spelled {p} currency s q = go (attribute D e (bytes "currencyID"))
    where
      go : (o : Option Place) → maybe (amount_at x s p) (amount_in currency x s p) o ≡ maybe (parsed mode D s e) (in_currency mode currency D s e) o
      go none = parsed_spelled s (own_is t x l mode e q)
      go (some id) = rw (parsed_spelled s (own_is t x l mode e q))

  pub heard_spelled : {p : Place} (currency : List ℕ) (s : Site) → some p ≡ text_in D mode e → amount_beside currency D x s e p ≡ amount_of mode currency D s e
  unfolding amount_of
  heard_spelled currency s q = rw (amount_spelled currency s q, ← q)

  -- a tax total, blank or not
  pub tax_spelled : {p : Place} → p ≡ own_text D mode e → answered_at (λ n. Message.TaxTotalUnreadable) (site Path.SummationTaxTotalAmount none) p (Money.amount_of (shows x p)) ≡ tax_amount mode D e
  unfolding answered_at answered Money.parsed_amount tax_amount
  tax_spelled q = rw (q, own_shown t x l mode e)

-- amounts of a child that was looked for by a name
module _ (t x l : List ℕ) (n : ℕ) (w : List ℕ) where
  pub amount_kid : {o : Option ℕ} (L : Lent) (s : Site) → o ≡ kid (link_doc t x l) n w → amount_found L (link_doc t x l) s o ≡ amount L.mode L.currency (link_doc t x l) s n w
  unfolding amount_found amount
  amount_kid L s q = rw q

  pub required_kid : {o : Option ℕ} (L : Lent) (q : Required) → o ≡ kid (link_doc t x l) n w → required_found L (link_doc t x l) q o ≡ required_amount L (link_doc t x l) q.rule q.group (site_of q.site) n w
  unfolding required_found missing_amount required_amount kid_text amount_found amount
  required_kid L q e = rw e

  -- a required amount, by what it was asked by
  pub required_told :
      {q : Required} {r : Rule} {p : Path} {s : Site} {o : Option ℕ} {a b : Entries} {v : ℤ} (L : Lent) → Wanted q r p s → o ≡ kid (link_doc t x l) n w → Told (required_found L (link_doc t x l) q o) a v b →
      Told (required_amount L (link_doc t x l) r p s n w) a v b
  required_told {q} L h e told = rw (← h.rule, ← h.group, ← h.site, ← required_kid L q e) told
