-- What the code's values mean.
use Rattle.text.specs.Options.{option_of}
use Rattle.std.proofs.Math.Option.{Option, none, some}
use Rattle.std.specs.Prelude.{ℕ, ◌+◌, ℤ}
use Rattle.report.specs.declared.value.Place as Code
use Rattle.report.specs.declared.entry.Entry as CodeEntry
use Rattle.report.specs.declared.held.Transfer as CodeTransfer
use Rattle.report.specs.declared.held.Vat as CodeVat
use Rattle.report.specs.declared.held.AllowanceCharge as CodeAllowanceCharge
use Rattle.report.specs.declared.held.Preceding as CodePreceding
use Rattle.report.specs.declared.unmapped_row.Unmapped as CodeUnmapped
use Rattle.report.specs.Rows.{Place, Entry, Transfer, Vat, AllowanceCharge, Preceding, Unmapped}
use Rattle.std.specs.declared.option.Option as code
use Rattle.std.specs.Prelude.{None, Some}
use Rattle.amount.specs.declared.amount.InvoiceAmount.{InvoiceAmount}
use Rattle.amount.specs.declared.numeric.Percentage.{Percentage}

-- a text's place, behind what was trimmed off
abbrev pub place_of : Code.Place → Place
place_of p = record { start = p.start + p.skip; len = p.len }

-- absent or at a place
abbrev pub text_of : code.Option Code.Place → Option Place
text_of None = none
text_of (Some p) = some (place_of p)

-- absent or a count of hundredths
abbrev pub amount_of : code.Option InvoiceAmount → Option ℤ
amount_of None = none
amount_of (Some a) = some a.0

-- absent or its unscaled number and scale
abbrev pub percent_of : code.Option Percentage → Option (ℤ × ℕ)
percent_of None = none
percent_of (Some q) = some (q.unscaled, q.scale)

-- an entry
abbrev pub entry_of : CodeEntry.Entry → Entry Place
entry_of e = record { message = e.message; path = e.path; term = option_of e.term; index = option_of e.index; value = text_of e.value }

-- BG-17
abbrev pub transfer_of : CodeTransfer.Transfer → Transfer Place
transfer_of t = record { account = text_of t.account; name = text_of t.name; provider = text_of t.provider }

-- BG-23
abbrev pub vat_of : CodeVat.Vat → Vat Place
vat_of v =
    record {
      taxable = v.taxable.0;
      tax = v.tax.0;
      category = place_of v.category;
      rate = percent_of v.rate;
      reason = text_of v.reason;
      code = text_of v.code;
    }

-- BG-20 or BG-21
abbrev pub allowance_charge_of : CodeAllowanceCharge.AllowanceCharge → AllowanceCharge Place
allowance_charge_of a =
    record {
      amount = a.amount.0;
      base = amount_of a.base;
      percentage = percent_of a.percentage;
      category = place_of a.category;
      rate = percent_of a.rate;
      reason = text_of a.reason;
      code = text_of a.code;
    }

-- BG-3
abbrev pub preceding_of : CodePreceding.Preceding → Preceding Place
preceding_of p = record { reference = place_of p.reference; date = option_of p.date }

-- an unmapped element
abbrev pub unmapped_of : CodeUnmapped.Unmapped → Unmapped Place
unmapped_of u = record { parent = u.parent; name = place_of u.name }
