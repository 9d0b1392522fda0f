-- The names of the parents of unmapped elements (document 01, "Rows": Unmapped).
use Rattle.std.specs.Prelude.{List, ℕ}
use Prim.Native.String.{String}
use Rattle.names.specs.declared.parent.Parent.{Parent}
use Rattle.names.specs.Parent.{parents}
use Rattle.labels.specs.Text.{text_at}

-- the element's name
abbrev pub parent_name : Parent → String
parent_name Parent.Settlement = "ApplicableHeaderTradeSettlement"
parent_name Parent.MonetarySummation = "SpecifiedTradeSettlementHeaderMonetarySummation"
parent_name Parent.PaymentMeans = "SpecifiedTradeSettlementPaymentMeans"

-- the same by its number, nothing where no parent has it
unfoldable pub parent_name_at : ℕ → List ℕ
parent_name_at n = text_at parent_name parents n
