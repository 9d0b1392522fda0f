-- The parents of unmapped elements: element names of CII D16B (document 01, "Rows": Unmapped).
use Rattle.std.specs.Prelude.{List, [], ◌∷◌, ℕ}
use Rattle.names.specs.declared.parent.Parent.{Parent}

-- 1 settlement, 2 monetary summation, 3 payment means
abbrev pub parent_number : Parent → ℕ
parent_number Parent.Settlement = 1
parent_number Parent.MonetarySummation = 2
parent_number Parent.PaymentMeans = 3

-- the parents in the order of their numbers
unfoldable pub parents : List Parent
parents =
    Parent.Settlement ∷
    Parent.MonetarySummation ∷
    Parent.PaymentMeans ∷
    []
