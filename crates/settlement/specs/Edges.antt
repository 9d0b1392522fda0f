-- The starred edges of document 01, "Edges", as one list of equations about the definitions.
use Rattle.std.specs.Prelude.{◌≡◌, false, cond, List, [], ◌∷◌, pos, negsuc}
use Rattle.std.proofs.Math.Option.{none, some}
use Prim.Native.String.{String}
use Rattle.text.specs.Answer.{read, says}
use Rattle.text.specs.Order.{equal}
use Rattle.text.specs.Utf8.{bytes}
use Rattle.amount.specs.Amount.{parsed_amount}
use Rattle.codes.specs.VatPoint.{vat_point_date_code_of}
use Rattle.date.specs.Date.{parsed_date}
use Rattle.names.specs.declared.message.Message.TheVariants as Message
use Rattle.names.specs.declared.path.Path.TheVariants as Path
use Rattle.names.specs.declared.term.Term.TheVariants as Term
use Rattle.settlement.specs.Values.{Lent}
use Rattle.settlement.specs.Settlement.{reading}
use Rattle.settlement.specs.Tree.{Tree, node, nothing, forest, tree_doc}

-- an element with a text
abbrev pub leaf : String → String → Tree
leaf n x = node (bytes n) (some (bytes x)) (λ w. none) nothing

-- an element with a text and a currencyID
abbrev pub in_currency : String → String → String → Tree
in_currency k n x = node (bytes n) (some (bytes x)) (λ w. cond (equal (bytes "currencyID") w) (some (bytes k)) none) nothing

-- an element without a text, with its children
abbrev pub branch : String → List Tree → Tree
branch n l = node (bytes n) none (λ w. none) (forest l)

-- a settlement
abbrev pub settlement : List Tree → Tree
settlement l = branch "ApplicableHeaderTradeSettlement" l

-- input `0 0 EUR -`
abbrev pub lent : Lent
lent = record { mode = 0; rules = 0; currency = bytes "EUR"; extension = false }

-- a list of equations holds where each does
abbrev pub All : List (Type 0) → Type 0
All [] = Unit {0}
All (e ∷ es) = e × All es

-- what a definition gives, and what document 01 says
unfoldable pub edges : List (Type 0)
edges =
    (parsed_amount 0 (bytes "-92233720368547758.08") ≡ read (negsuc 9223372036854775807)) ∷
    (parsed_amount 0 (bytes "92233720368547758.08") ≡ says 5) ∷
    (parsed_amount 0 (bytes "92233720368547758.07") ≡ read (pos 9223372036854775807)) ∷
    (parsed_amount 0 (bytes "1.000") ≡ says 4) ∷
    (parsed_amount 0 (bytes "99999999999999999999.123") ≡ says 4) ∷
    (parsed_amount 0 (bytes ".") ≡ says 3) ∷
    (parsed_amount 0 (bytes ".5") ≡ read (pos 50)) ∷
    (parsed_amount 0 (bytes "\u{a0}1") ≡ read (pos 100)) ∷
    (parsed_amount 1 (bytes "\u{a0}1") ≡ says 3) ∷
    (parsed_date 0 (bytes "20240229") ≡ read 20240229) ∷
    (parsed_date 0 (bytes "19000229") ≡ says 13) ∷
    (parsed_date 0 (bytes "00000229") ≡ read 229) ∷
    (vat_point_date_code_of (bytes "5") ≡ read 3) ∷
    (vat_point_date_code_of (bytes "3") ≡ says 15) ∷
    ((reading lent tree_doc (settlement (branch "ApplicableTradeTax" (leaf "DueDateTypeCode" "3" ∷ []) ∷ []))).entries ≡
    record { message = Message.UnknownVatPointCode; path = Path.TradeTaxDueDateTypeCode; term = some Term.Bt8; index = none; value = some (bytes "3") } ∷ []) ∷
    ((reading lent tree_doc (settlement (leaf "InvoiceCurrencyCode" "EUR" ∷ leaf "TaxCurrencyCode" "EUR" ∷ branch "SpecifiedTradeSettlementHeaderMonetarySummation" (in_currency "EUR" "TaxTotalAmount" "10.00" ∷ in_currency "EUR" "TaxTotalAmount" "12.00" ∷ []) ∷ []))).terms.totals ≡
    record { line = pos 0; allowance = none; charge = none; taxable = pos 0; vat = some (pos 1000); vat_accounting = some (pos 1200); gross = pos 0; paid = none; rounding = none; due = pos 0 }) ∷
    []
