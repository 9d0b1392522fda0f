-- BT-110 and BT-111 from the tax totals of one summation, for the laws that say them without a state (document 01, `read.rs`: Summation).
use Rattle.std.specs.Prelude.{Bool, true, false, not, ◌&&◌, ◌||◌, List, ℕ, ℤ}
use Rattle.std.proofs.Math.Option.{Option, none, some}
use Rattle.text.specs.Utf8.{bytes}
use Rattle.amount.specs.Amount.{parsed_amount}
use Rattle.settlement.specs.Document.{Doc, maybe}
use Rattle.settlement.specs.Shapes.{Currencies}
use Rattle.settlement.specs.Values.{own_text, text_bytes, attribute}
use Rattle.settlement.specs.Summation.{is_currency}
use Rattle.settlement.specs.Alike.{keep}
use Rattle.settlement.specs.Last.{is_named, last_that, before_last, from_last, last_named, first_given}

module _ {N X : Type 0} (D : Doc N X) where
  -- BT-5 and BT-6 as read before the last summation: of the last code of each before it
  unfoldable pub currencies_before : List N → Currencies X
  currencies_before cs =
      let before = before_last (is_named D "SpecifiedTradeSettlementHeaderMonetarySummation") cs in
      record { bt5 = maybe none (λ n. some (own_text D 0 n)) (last_named D "InvoiceCurrencyCode" before); bt6 = maybe none (λ n. some (own_text D 0 n)) (last_named D "TaxCurrencyCode" before) }

  -- the tax totals of a summation
  unfoldable pub tax_totals_in : N → List N
  tax_totals_in n = keep (is_named D "TaxTotalAmount") (D.kids n)

  -- whether an element's currencyID is a currency that was read
  unfoldable pub is_in_currency : Option X → N → Bool
  is_in_currency o c = maybe false (is_currency D o) (attribute D c (bytes "currencyID"))

  -- whether it has none
  unfoldable pub has_no_currency : N → Bool
  has_no_currency c = maybe true (λ x. false) (attribute D c (bytes "currencyID"))

  module _ (cur : Currencies X) where
    -- a tax total sets BT-110, even to blank: it is in BT-5 and not in BT-6, or has no currencyID
    unfoldable pub sets_vat : N → Bool
    sets_vat c = has_no_currency c || (is_in_currency cur.bt5 c && not (is_in_currency cur.bt6 c))

    -- one in both fills it in where it is blank
    unfoldable pub fills_vat : N → Bool
    fills_vat c = is_in_currency cur.bt5 c && is_in_currency cur.bt6 c

module _ {N X : Type 0} (mode : ℕ) (D : Doc N X) where
  -- the amount of a tax total, absent where it is unreadable
  unfoldable pub tax_amount_at : N → Option ℤ
  tax_amount_at c = (parsed_amount mode (text_bytes D c)).value

  -- BT-111 is that of the last tax total in BT-6
  unfoldable pub accounting_vat_in : Currencies X → N → Option ℤ
  accounting_vat_in cur n = maybe none tax_amount_at (last_that (is_in_currency D cur.bt6) (tax_totals_in D n))

  -- BT-110 is that of the last tax total that sets it; where that is blank, or there is none, the first amount behind it of those that fill it in
  unfoldable pub vat_in : Currencies X → N → Option ℤ
  vat_in cur n = first_given tax_amount_at (keep (λ c. sets_vat D cur c || fills_vat D cur c) (from_last (sets_vat D cur) (tax_totals_in D n)))
