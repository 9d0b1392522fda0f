-- The unmapped names that are met in a settlement, by its children alone (document 01, "Rows": Unmapped).
use Rattle.std.specs.Prelude.{Bool, false, cond, ◌||◌, ℕ}
use mathlib.Core.List.{List, [], ◌∷◌, ◌++◌, flat_map}
use Prim.Native.String.{String}
use Rattle.text.specs.Order.{equal}
use Rattle.text.specs.Utf8.{bytes}
use Rattle.names.specs.declared.parent.Parent.{Parent}
use Rattle.report.specs.Rows.{Unmapped}
use Rattle.settlement.specs.Document.{Doc}
use Rattle.settlement.specs.Kinds.{kinds}
use Rattle.settlement.specs.Payments.{parts}
use Rattle.settlement.specs.Summation.{sums}
use Rattle.settlement.specs.Last.{is_named}

-- whether a list of names has this one
unfoldable pub is_listed : {A : Type 0} → List (String × A) → List ℕ → Bool
is_listed [] s = false
is_listed (c ∷ cs) s = equal s (bytes c.0) || is_listed cs s

module _ {N X : Type 0} (D : Doc N X) where
  -- the elements whose names a list does not have, under their parent, in order
  unfoldable pub unlisted : {A : Type 0} → Parent → List (String × A) → List N → List (Unmapped X)
  unlisted p names cs = flat_map (λ c. cond (is_listed names (D.bytes (D.name c))) [] (record { parent = p; name = D.name c } ∷ [])) cs

  -- what is met at a child of the settlement: itself, and the children of a monetary summation or a payment means
  unfoldable pub met_at : N → List (Unmapped X)
  met_at c =
      unlisted Parent.Settlement kinds (c ∷ []) ++
      (cond (is_named D "SpecifiedTradeSettlementHeaderMonetarySummation" c) (unlisted Parent.MonetarySummation sums (D.kids c)) [] ++
      cond (is_named D "SpecifiedTradeSettlementPaymentMeans" c) (unlisted Parent.PaymentMeans parts (D.kids c)) [])

  -- in order of the children
  unfoldable pub met : List N → List (Unmapped X)
  met cs = flat_map met_at cs
