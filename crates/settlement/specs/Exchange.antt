-- Two neighbouring children of a settlement that change places (document 01, "Rows").
use Rattle.std.specs.Prelude.{◌≡◌, List, ◌∷◌, ◌++◌, ◌⊎◌, ◌≢◌, ℕ}
use Rattle.text.specs.Utf8.{bytes}
use Rattle.settlement.specs.Document.{Doc}

-- a currency code with the summation, an allowance or charge with a logistics charge
abbrev pub Pair : List ℕ → List ℕ → Type 0
Pair a b =
    ((a ≡ bytes "InvoiceCurrencyCode") × (b ≡ bytes "SpecifiedTradeSettlementHeaderMonetarySummation")) ⊎
    (((a ≡ bytes "TaxCurrencyCode") × (b ≡ bytes "SpecifiedTradeSettlementHeaderMonetarySummation")) ⊎
    ((a ≡ bytes "SpecifiedTradeAllowanceCharge") × (b ≡ bytes "SpecifiedLogisticsServiceCharge")))

-- the pairs left out, either way round
abbrev pub LeftOut : List ℕ → List ℕ → Type 0
LeftOut a b = Pair a b ⊎ Pair b a

-- the settlements n and m of a document have the same children, but that two neighbours of different names change places
pub record Exchanged {N X : Type 0} (D : Doc N X) (n m : N) : Type 0 where
  pub pre : List N
  pub x : N
  pub y : N
  pub post : List N
  pub left : D.kids n ≡ pre ++ x ∷ y ∷ post
  pub right : D.kids m ≡ pre ++ y ∷ x ∷ post
  pub names : D.bytes (D.name x) ≢ D.bytes (D.name y)
  pub allowed : ¬ LeftOut (D.bytes (D.name x)) (D.bytes (D.name y))
