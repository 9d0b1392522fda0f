-- Payment means and transfers, for the laws that say them without a state (document 01, `read.rs`: Payment; EN 16931-1, BG-17 to BG-19).
use Rattle.std.specs.Prelude.{Bool, true, false, cond}
use mathlib.Core.List.{List, [], ◌∷◌, flat_map}
use Rattle.std.proofs.Math.Option.{Option, none}
use Rattle.text.specs.Utf8.{bytes}
use Rattle.report.specs.Rows.{Transfer, Held, transfer, vat, allowance, charge, preceding}
use Rattle.settlement.specs.Document.{Doc, maybe}
use Rattle.settlement.specs.Shapes.{Means, unset, card, debit, transfers}
use Rattle.settlement.specs.Values.{kid_text}
use Rattle.settlement.specs.Payments.{account_of}
use Rattle.settlement.specs.Alike.{keep}
use Rattle.settlement.specs.Last.{is_named, last_named}

-- the first means, or the second where that is unset
abbrev pub or_means : {X : Type 0} → Means X → Means X → Means X
or_means unset m = m
or_means (card a b) m = card a b
or_means (debit a) m = debit a
or_means transfers m = transfers

-- whether the means are transfers
abbrev pub are_transfers : {X : Type 0} → Means X → Bool
are_transfers unset = false
are_transfers (card a b) = false
are_transfers (debit a) = false
are_transfers transfers = true

-- a held row, its provider apart
abbrev pub unprovided : {X : Type 0} → Held X → Held X
unprovided (transfer t) = transfer (record { account = t.account; name = t.name; provider = none })
unprovided (vat v) = vat v
unprovided (allowance a) = allowance a
unprovided (charge a) = charge a
unprovided (preceding p) = preceding p

module _ {N X : Type 0} (D : Doc N X) where
  -- the payment means of a settlement
  unfoldable pub payment_means_in : List N → List N
  payment_means_in cs = keep (is_named D "SpecifiedTradeSettlementPaymentMeans") cs

  -- their parts, in order
  unfoldable pub parts_in : List N → List N
  parts_in cs = flat_map D.kids (payment_means_in cs)

  -- a creditor's account
  unfoldable pub is_account : N → Bool
  is_account c = is_named D "PayeePartyCreditorFinancialAccount" c

  -- the kind that a part fixes: a card's, a debited account's or an account's
  unfoldable pub fixes : N → Means X
  fixes c =
      cond (is_named D "ApplicableTradeSettlementFinancialCard" c) (card (kid_text D 0 c (bytes "ID")) (kid_text D 0 c (bytes "CardholderName")))
      (cond (is_named D "PayerPartyDebtorFinancialAccount" c) (debit (account_of D c)) (cond (is_account c) transfers unset))

  -- the first of them counts
  unfoldable pub fixed : List N → Means X
  fixed [] = unset
  fixed (c ∷ cs) = or_means (fixes c) (fixed cs)

  -- the parts before the next account
  unfoldable pub until_account : List N → List N
  until_account [] = []
  until_account (c ∷ cs) = cond (is_account c) [] (c ∷ until_account cs)

  -- BT-86: the BICID of the last institution that follows an account, before the next one
  unfoldable pub provider_after : List N → Option X
  provider_after cs = maybe none (λ i. kid_text D 0 i (bytes "BICID")) (last_named D "PayeeSpecifiedCreditorFinancialInstitution" (until_account cs))

  -- BT-84, BT-85, and BT-86 as given
  unfoldable pub transfer_row : N → Option X → Transfer X
  transfer_row c o = record { account = account_of D c; name = kid_text D 0 c (bytes "AccountName"); provider = o }

  -- a transfer for each account of a payment means
  unfoldable pub transfers_in : List N → List (Transfer X)
  transfers_in [] = []
  transfers_in (c ∷ cs) = cond (is_account c) (transfer_row c (provider_after cs) ∷ transfers_in cs) (transfers_in cs)

  -- the transfers of all payment means, those of each by itself: a provider never goes to an account of another
  unfoldable pub all_transfers : List N → List (Transfer X)
  all_transfers cs = flat_map (λ n. transfers_in (D.kids n)) (payment_means_in cs)
