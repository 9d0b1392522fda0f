-- The columns of the rows: what their numbers are, kind by kind (document 01, "Rows").
use Rattle.std.specs.Prelude.{List, [], ◌∷◌, ℕ, get_or}

-- a text (start, length), a plain number, an amount that may be absent (1 or 0, amount), a percentage (unscaled number, scale), a date
pub data Column : Type 0 where
  text : Column
  plain : Column
  amount : Column
  percent : Column
  date : Column

-- how many numbers a column has
abbrev pub width : Column → ℕ
width text = 2
width plain = 1
width amount = 2
width percent = 2
width date = 1

-- message, path, term, group index, value
abbrev pub entry_columns : List Column
entry_columns = plain ∷ plain ∷ plain ∷ plain ∷ text ∷ []

-- parent and name
abbrev pub unmapped_columns : List Column
unmapped_columns = plain ∷ text ∷ []

-- kind, account, name, provider
abbrev pub transfer_columns : List Column
transfer_columns = plain ∷ text ∷ text ∷ text ∷ []

-- kind, taxable, tax, category, rate, exemption reason, its code
abbrev pub vat_columns : List Column
vat_columns = plain ∷ plain ∷ plain ∷ text ∷ percent ∷ text ∷ text ∷ []

-- kind, amount, base, percentage, category, rate, reason, code
abbrev pub allowance_charge_columns : List Column
allowance_charge_columns = plain ∷ plain ∷ amount ∷ percent ∷ text ∷ percent ∷ text ∷ text ∷ []

-- kind, reference, date
abbrev pub preceding_columns : List Column
preceding_columns = plain ∷ text ∷ date ∷ []

-- of a held row by its kind, before its unused numbers: 1 transfer, 2 VAT, 3 allowance, 4 charge, 5 preceding invoice; of any other kind the kind alone
unfoldable pub held_columns : ℕ → List Column
held_columns k = get_or ((plain ∷ []) ∷ transfer_columns ∷ vat_columns ∷ allowance_charge_columns ∷ allowance_charge_columns ∷ preceding_columns ∷ []) k (plain ∷ [])
