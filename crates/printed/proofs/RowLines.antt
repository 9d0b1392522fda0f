-- The lines made of rows are those of what the rows hold.
use mathlib.Core.Path.{◌≡◌, refl}
use mathlib.Core.List.{List}
use mathlib.Core.Option.{Option, none, some}
use Prim.Native.Nat.{ℕ}
use Rattle.names.specs.declared.term.Term.{Term}
use Rattle.names.specs.Term.{maybe_term_number}
use Rattle.names.proofs.Numbers.{term_counted}
use Rattle.labels.proofs.OwnTexts.{path-text, term-group, term-name, parent-name}
use Rattle.report.specs.Rows.{Place, Entry, Held, transfer, vat, allowance, charge, preceding, Unmapped, map_entry, map_transfer, map_vat, map_allowance_charge, map_preceding, map_held, map_unmapped}
use Rattle.report.specs.Columns.{held_columns}
use Rattle.report.specs.Encoding.{or_absent, held_row, entry_row, unmapped_row}
use Rattle.settlement.specs.TableDoc.{shows}
use Rattle.settlement.proofs.Results.{tidy_shows}
use Rattle.decimals.specs.Decimal.{signed, natural}
use Rattle.fields.specs.Line.{field}
use Rattle.fields.specs.Columns.{shown, fields}
use Rattle.lines.specs.Labels.{term_shown, unmapped_path, name_shown}
use Rattle.printed.specs.Printed.{held_line, term_field, entry_line, unmapped_line}
use Rattle.printed.specs.Numbers.{held_numbers, entry_numbers, unmapped_numbers}
use Rattle.printed.proofs.Values.{place_shown, text-shown, amount-shown, percent-shown, date-shown}

-- a term by its number is the term
term-shown : (t : Option Term) (index : Option ℕ) → field (term_shown (maybe_term_number t) (or_absent index)) ≡ term_field t index
unfolding term_field term_shown
term-shown none index = refl
term-shown (some t) index = rw (term_counted t, term-group t, term-name t)

module _ (x : List ℕ) where
  pub held-line : (h : Held Place) → held_numbers x (held_row h) ≡ held_line (map_held (shows x) h)
  unfolding held_numbers held_row held_line held_columns fields shown natural signed field map_held map_transfer map_vat map_allowance_charge map_preceding
  held-line (transfer t) = rw (text-shown x t.account, text-shown x t.name, text-shown x t.provider)
  held-line (vat v) = rw (place_shown x v.category, percent-shown v.rate, text-shown x v.reason, text-shown x v.code)
  held-line (allowance a) =
      rw (amount-shown a.base, percent-shown a.percentage, place_shown x a.category, percent-shown a.rate, text-shown x a.reason, text-shown x a.code)
  held-line (charge a) =
      rw (amount-shown a.base, percent-shown a.percentage, place_shown x a.category, percent-shown a.rate, text-shown x a.reason, text-shown x a.code)
  held-line (preceding p) = rw (place_shown x p.reference, date-shown p.date)

  pub entry-line : (e : Entry Place) → entry_numbers x (entry_row e) ≡ entry_line (map_entry (shows x) e)
  unfolding entry_numbers entry_row entry_line shown natural signed map_entry
  entry-line e = rw (path-text e.path, term-shown e.term e.index, text-shown x e.value)

  pub unmapped-line : (u : Unmapped Place) → unmapped_numbers x (unmapped_row u) ≡ unmapped_line (map_unmapped (shows x) u)
  unfolding unmapped_numbers unmapped_row unmapped_line unmapped_path name_shown natural map_unmapped
  unmapped-line u = rw (parent-name u.parent, tidy_shows x u.name)
