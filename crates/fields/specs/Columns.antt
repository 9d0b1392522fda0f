-- What the numbers of a row show, column by column (document 01, "Rows" and "The printed reading").
use Rattle.std.specs.Prelude.{cond, List, [], ◌∷◌, ℕ, eqb, ℤ, pos, negsuc, get_or, drop}
use Rattle.std.proofs.Math.Option.{Option, none, some}
use Rattle.text.specs.Span.{clipped}
use Rattle.report.specs.Columns.{Column, text, plain, amount, percent, date, width}
use Rattle.decimals.specs.Decimal.{decimal, signed, natural}
use Rattle.fields.specs.Line.{printable, field, percentage}
use Rattle.fields.specs.declared.column.Column as code

-- a column, as the code names it
abbrev pub column_of : code.Column → Column
column_of code.Column.Text = text
column_of code.Column.Plain = plain
column_of code.Column.Amount = amount
column_of code.Column.Percent = percent
column_of code.Column.Date = date

-- a column by a letter: t text, a amount, p percentage, d date, any other a plain number
unfoldable pub column_by : ℕ → Column
column_by c = cond (eqb c 0x74) text (cond (eqb c 0x61) amount (cond (eqb c 0x70) percent (cond (eqb c 0x64) date plain)))

-- a number of a row, 0 past its end
abbrev pub cell : List ℤ → ℕ → ℤ
cell row i = get_or row i (pos 0)

-- "absent text is -1, 0": the bytes at a place, none where a number is below 0
unfoldable pub text_shown : List ℕ → ℤ → ℤ → Option (List ℕ)
text_shown x (pos s) (pos n) = some (printable (clipped x s n))
text_shown x (pos s) (negsuc n) = none
text_shown x (negsuc s) n = none

-- "absent 0, -1"
unfoldable pub percent_shown : ℤ → ℤ → Option (List ℕ)
percent_shown a (pos k) = some (percentage a k)
percent_shown a (negsuc k) = none

-- "base" present or not, 1 or 0
unfoldable pub amount_shown : ℤ → ℤ → Option (List ℕ)
amount_shown p a = cond (eqb (natural p) 0) none (some (signed a))

-- "a date is the number CCYYMMDD, absent -1"
unfoldable pub date_shown : ℤ → Option (List ℕ)
date_shown (pos n) = some (decimal n)
date_shown (negsuc n) = none

-- what a column shows, by a row's numbers from it on
unfoldable pub shown : List ℕ → Column → List ℤ → Option (List ℕ)
shown x text v = text_shown x (cell v 0) (cell v 1)
shown x plain v = some (signed (cell v 0))
shown x amount v = amount_shown (cell v 0) (cell v 1)
shown x percent v = percent_shown (cell v 0) (cell v 1)
shown x date v = date_shown (cell v 0)

-- the fields of a row, one for each column
unfoldable pub fields : List ℕ → List Column → List ℤ → List (List ℕ)
fields x [] row = []
fields x (c ∷ cs) row = field (shown x c row) ∷ fields x cs (drop (width c) row)
