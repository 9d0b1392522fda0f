-- The monetary summation (document 01, `read.rs`: Summation; EN 16931-1, BG-22).
use Rattle.std.specs.Prelude.{Bool, true, false, cond, ◌&&◌, ℕ, ℤ}
use mathlib.Core.List.{List, [], ◌∷◌, ◌++◌, foldl}
use Rattle.std.proofs.Math.Option.{Option, none, some}
use Prim.Native.String.{String}
use Rattle.text.specs.Order.{equal}
use Rattle.text.specs.Utf8.{bytes}
use Rattle.amount.specs.Amount.{parsed_amount}
use Rattle.codes.specs.declared.rules.Rule.TheVariants as Rule
use Rattle.names.specs.declared.message.Message.TheVariants as Message
use Rattle.names.specs.declared.parent.Parent.TheVariants as Parent
use Rattle.names.specs.declared.path.Path.TheVariants as Path
use Rattle.names.specs.declared.term.Term.TheVariants as Term
use Rattle.report.specs.Rows.{Entry, Unmapped}
use Rattle.settlement.specs.Document.{Doc, maybe}
use Rattle.settlement.specs.Kinds.{meant}
use Rattle.settlement.specs.Shapes.{Totals, Currencies, Act}
use Rattle.settlement.specs.Values.{Lent, site, Says, entry, text_bytes, answered, attribute, amount, required_amount}

-- the children of a summation: those that are read once after all others, the optional amounts, tax totals
pub data Sum : Type 0 where
  required allowance_total charge_total tax_total rounding prepaid unread : Sum

-- their names; any other is unmapped
unfoldable pub sums : List (String × Sum)
sums =
    ("LineTotalAmount", required) ∷
    ("TaxBasisTotalAmount", required) ∷
    ("GrandTotalAmount", required) ∷
    ("DuePayableAmount", required) ∷
    ("ChargeTotalAmount", charge_total) ∷
    ("AllowanceTotalAmount", allowance_total) ∷
    ("TaxTotalAmount", tax_total) ∷
    ("RoundingAmount", rounding) ∷
    ("TotalPrepaidAmount", prepaid) ∷
    []

-- the optional amounts so far, entries, unmapped names
pub record Summing (X : Type 0) : Type 0 where
  pub allowance : Option ℤ
  pub charge : Option ℤ
  pub vat : Option ℤ
  pub vat_accounting : Option ℤ
  pub rounded : Option ℤ
  pub paid : Option ℤ
  pub says : List (Entry X)
  pub strays : List (Unmapped X)

-- whether nothing is there
abbrev pub is_none : {A : Type 0} → Option A → Bool
is_none none = true
is_none (some a) = false

-- BT-110 and BT-111 after one tax total of amount a
unfoldable pub with_vat : {X : Type 0} → Option ℤ → Option ℤ → List (Entry X) → Summing X → Summing X
with_vat v w es s = record { allowance = s.allowance; charge = s.charge; vat = v; vat_accounting = w; rounded = s.rounded; paid = s.paid; says = s.says ++ es; strays = s.strays }

module _ {N X : Type 0} (D : Doc N X) where
  -- what a child is
  unfoldable pub sum_of : N → Sum
  sum_of c = meant unread sums (D.bytes (D.name c))

  -- whether a currency was read and is this
  unfoldable pub is_currency : Option X → X → Bool
  is_currency o c = maybe false (λ d. equal (D.bytes d) (D.bytes c)) o

  -- in BT-6 it sets BT-111, and BT-110 too if that equals BT-5 and BT-110 is absent; in neither, 17; otherwise it sets BT-110
  unfoldable pub tax_in : Currencies X → Option ℤ → List (Entry X) → Summing X → X → Summing X
  tax_in cur a es s c =
      cond (is_currency cur.bt6 c) (with_vat (cond (is_currency cur.bt5 c && is_none s.vat) a s.vat) a es s)
      (cond (is_currency cur.bt5 c) (with_vat a s.vat_accounting es s)
      (with_vat s.vat s.vat_accounting (es ++ (entry Message.TaxTotalCurrency (site Path.SummationTaxTotalAmount (some Term.Bt110)) (some c) ∷ [])) s))

-- a tax total's own text as an amount; 16 where it is unreadable
unfoldable pub tax_amount : {N X : Type 0} → ℕ → Doc N X → N → Says X (Option ℤ)
tax_amount mode D c = answered mode D (λ n. Message.TaxTotalUnreadable) (site Path.SummationTaxTotalAmount none) c (parsed_amount mode (text_bytes D c))

module _ {N X : Type 0} (L : Lent) (D : Doc N X) where
  -- a tax total without currencyID is BT-110; with one, the currencies read so far decide
  unfoldable pub tax_total_of : Currencies X → Summing X → N → Summing X
  tax_total_of cur s c = let a = tax_amount L.mode D c in maybe (with_vat a.0 s.vat_accounting a.1 s) (tax_in D cur a.0 a.1 s) (attribute D c (bytes "currencyID"))

  -- every child of an optional amount's name reads the first such child again, entry and all
  unfoldable pub summand : Sum → Currencies X → N → Summing X → N → Summing X
  summand required cur n s c = s
  summand allowance_total cur n s c =
      let a = amount L.mode L.currency D (site Path.SummationAllowanceTotalAmount (some Term.Bt107)) n (bytes "AllowanceTotalAmount") in
      record { allowance = a.0; charge = s.charge; vat = s.vat; vat_accounting = s.vat_accounting; rounded = s.rounded; paid = s.paid; says = s.says ++ a.1; strays = s.strays }
  summand charge_total cur n s c =
      let a = amount L.mode L.currency D (site Path.SummationChargeTotalAmount (some Term.Bt108)) n (bytes "ChargeTotalAmount") in
      record { allowance = s.allowance; charge = a.0; vat = s.vat; vat_accounting = s.vat_accounting; rounded = s.rounded; paid = s.paid; says = s.says ++ a.1; strays = s.strays }
  summand tax_total cur n s c = tax_total_of cur s c
  summand rounding cur n s c =
      let a = amount L.mode L.currency D (site Path.SummationRoundingAmount (some Term.Bt114)) n (bytes "RoundingAmount") in
      record { allowance = s.allowance; charge = s.charge; vat = s.vat; vat_accounting = s.vat_accounting; rounded = a.0; paid = s.paid; says = s.says ++ a.1; strays = s.strays }
  summand prepaid cur n s c =
      let a = amount L.mode L.currency D (site Path.SummationTotalPrepaidAmount (some Term.Bt113)) n (bytes "TotalPrepaidAmount") in
      record { allowance = s.allowance; charge = s.charge; vat = s.vat; vat_accounting = s.vat_accounting; rounded = s.rounded; paid = a.0; says = s.says ++ a.1; strays = s.strays }
  summand unread cur n s c =
      record { allowance = s.allowance; charge = s.charge; vat = s.vat; vat_accounting = s.vat_accounting; rounded = s.rounded; paid = s.paid; says = s.says; strays = s.strays ++ (record { parent = Parent.MonetarySummation; name = D.name c } ∷ []) }

  -- one child more
  unfoldable pub summing : Currencies X → N → Summing X → N → Summing X
  summing cur n s c = summand (sum_of D c) cur n s c

  -- after all children
  unfoldable pub summed : Currencies X → N → Summing X
  summed cur n =
      foldl (summing cur n) (record { allowance = none; charge = none; vat = none; vat_accounting = none; rounded = none; paid = none; says = []; strays = [] }) (D.kids n)

  -- the four required amounts come after all children
  unfoldable pub totals : Currencies X → N → Act X (Option Totals)
  totals cur n =
      let s = summed cur n in
      let a = required_amount L D Rule.Br12 Path.SettlementSummation (site Path.SummationLineTotalAmount (some Term.Bt106)) n (bytes "LineTotalAmount") in
      let b = required_amount L D Rule.Br13 Path.SettlementSummation (site Path.SummationTaxBasisTotalAmount (some Term.Bt109)) n (bytes "TaxBasisTotalAmount") in
      let c = required_amount L D Rule.Br14 Path.SettlementSummation (site Path.SummationGrandTotalAmount (some Term.Bt112)) n (bytes "GrandTotalAmount") in
      let d = required_amount L D Rule.Br15 Path.SettlementSummation (site Path.SummationDuePayableAmount (some Term.Bt115)) n (bytes "DuePayableAmount") in
      record {
        next =
            some
            (record { line = a.0; allowance = s.allowance; charge = s.charge; taxable = b.0; vat = s.vat; vat_accounting = s.vat_accounting; gross = c.0; paid = s.paid; rounding = s.rounded; due = d.0 });
        says = s.says ++ (a.1 ++ (b.1 ++ (c.1 ++ d.1)));
        holds = [];
        strays = s.strays;
      }
