-- The same lines from the numbers that a call leaves: its answer as one row, and its three lists of rows (document 01, "Rows"). A number past the end of a row is 0.
use Rattle.std.specs.Prelude.{Bool, true, false, cond, not, ◌&&◌, ◌||◌, List, [], ◌∷◌, ◌++◌, map, ℕ, ◌+◌, ◌*◌, ◌/◌, ◌^◌, ◌<◌, min, eqb, ℤ, pos, negsuc, length, drop}
use Rattle.std.proofs.Math.Option.{Option, none, some}
use Rattle.std.specs.Int.Signed.{mag}
use Rattle.text.specs.Utf8.{bytes}
use Rattle.labels.specs.PathText.{path_text_at}
use Rattle.report.specs.Columns.{Column, text, plain, amount, percent, date, held_columns}
use Rattle.report.specs.Encoding.{held_width, entry_width, unmapped_width, rows_then, cut_rows}
use Rattle.settlement.specs.Document.{maybe}
use Rattle.settlement.specs.Outcome.{Outcome}
use Rattle.settlement.specs.Result.{result_of, answer_row}
use Rattle.decimals.specs.Decimal.{decimal, signed, natural}
use Rattle.fields.specs.Line.{field, line}
use Rattle.fields.specs.Columns.{cell, shown, fields}
use Rattle.lines.specs.Labels.{term_shown, unmapped_path, name_shown}
use Rattle.printed.specs.Printed.{group_line}

-- whether a number says that something is there, 1 or 0
abbrev pub there : ℤ → Bool
there z = not (eqb (natural z) 0)

-- whether a number is not below 0
abbrev pub is_natural : ℤ → Bool
is_natural (pos n) = true
is_natural (negsuc n) = false

-- a group: its number, and where the answer says whether it is present
pub record GroupAt : Type 0 where
  pub number : ℕ
  pub place : ℕ

-- a term: its number, its column, and where it stands in the answer
pub record TermAt : Type 0 where
  pub number : ℕ
  pub column : Column
  pub place : ℕ

abbrev pub group : ℕ → ℕ → GroupAt
group n p = record { number = n; place = p }

abbrev pub term : ℕ → Column → ℕ → TermAt
term n c p = record { number = n; column = c; place = p }

-- BG-10, BG-14, BG-16, BG-18 (card), BG-19 (direct debit)
abbrev pub groups : List GroupAt
groups = group 10 16 ∷ group 14 27 ∷ group 16 30 ∷ group 18 37 ∷ group 19 42 ∷ []

-- the terms, "ascending"
abbrev pub terms : List TermAt
terms =
    term 5 text 5 ∷
    term 6 text 7 ∷
    term 7 date 9 ∷
    term 8 date 10 ∷
    term 9 date 11 ∷
    term 19 text 12 ∷
    term 20 text 14 ∷
    term 59 text 17 ∷
    term 60 text 19 ∷
    term 61 text 23 ∷
    term 73 date 28 ∷
    term 74 date 29 ∷
    term 81 text 31 ∷
    term 82 text 33 ∷
    term 83 text 35 ∷
    term 87 text 38 ∷
    term 88 text 40 ∷
    term 89 text 45 ∷
    term 90 text 47 ∷
    term 91 text 43 ∷
    term 106 plain 49 ∷
    term 107 amount 50 ∷
    term 108 amount 52 ∷
    term 109 plain 54 ∷
    term 110 amount 55 ∷
    term 111 amount 57 ∷
    term 112 plain 59 ∷
    term 113 amount 60 ∷
    term 114 amount 62 ∷
    term 115 plain 64 ∷ []

-- "60 and 61 with scheme", two numbers behind those of the content
unfoldable pub has_scheme : ℕ → Bool
has_scheme n = eqb n 60 || eqb n 61

-- whether a column shows something, by a row's numbers from it on
unfoldable pub is_shown : Column → List ℤ → Bool
is_shown text v = is_natural (cell v 0) && is_natural (cell v 1)
is_shown plain v = true
is_shown amount v = there (cell v 0)
is_shown percent v = is_natural (cell v 1)
is_shown date v = is_natural (cell v 0)

-- "`group` for present BG-10, .."
unfoldable pub group_numbers : List ℤ → GroupAt → List ℕ
group_numbers a g = group_line g.number (there (cell a g.place))

-- a term's content and its scheme; "absent terms are not printed"
unfoldable pub term_with : ℕ → Option (List ℕ) → Option (List ℕ) → List ℕ
term_with n none scheme = []
term_with n (some s) scheme = line "term" ((bytes "BT-" ++ decimal n) ∷ s ∷ maybe [] (λ t. t ∷ []) scheme)

-- its scheme, "if any"
unfoldable pub scheme_shown : List ℕ → List ℤ → (number place : ℕ) → Option (List ℕ)
scheme_shown x a n p = cond (has_scheme n) (shown x text (drop (p + 2) a)) none

-- "`term` with number and content (then scheme, if any)"
unfoldable pub term_numbers : List ℕ → List ℤ → TermAt → List ℕ
term_numbers x a t = term_with t.number (shown x t.column (drop t.place a)) (scheme_shown x a t.number t.place)

-- "`held` with kind and fields"
unfoldable pub held_numbers : List ℕ → List ℤ → List ℕ
held_numbers x row = line "held" (fields x (held_columns (natural (cell row 0))) row)

-- "`entry` with message, path, term, value"
unfoldable pub entry_numbers : List ℕ → List ℤ → List ℕ
entry_numbers x row =
    line "entry"
    (signed (cell row 0) ∷
    path_text_at (natural (cell row 1)) ∷
    field (term_shown (natural (cell row 2)) (cell row 3)) ∷
    field (shown x text (drop 4 row)) ∷ [])

-- "`unmapped` with path"
unfoldable pub unmapped_numbers : List ℕ → List ℤ → List ℕ
unmapped_numbers x row = line "unmapped" (unmapped_path (natural (cell row 0)) (name_shown x (cell row 1) (cell row 2)) ∷ [])

-- how many rows of a width are in a list: as many as are answered, if so many are there
unfoldable pub row_count : ℕ → ℤ → List ℤ → ℕ
row_count w answered l = min (natural answered) (length l / w)

-- those rows
abbrev pub rows_in : ℕ → ℤ → List ℤ → List (List ℤ)
rows_in w answered l = cut_rows w (row_count w answered l) l

-- "`accepted` with the three counts"
unfoldable pub accepted_line : List ℕ → List ℤ → List ℕ
accepted_line x a = line "accepted" (fields x (plain ∷ plain ∷ plain ∷ []) (drop 2 a))

-- "`refused` with number and record"
unfoldable pub refused_line : List ℕ → List ℤ → List ℕ
refused_line x a = line "refused" (fields x (plain ∷ plain ∷ []) a)

-- the lines of entries and unmapped elements
unfoldable pub later_lines : List ℕ → (answer entries unmapped : List ℤ) → List (List ℕ)
later_lines x a e u = map (entry_numbers x) (rows_in entry_width (cell a 3) e) ++ map (unmapped_numbers x) (rows_in unmapped_width (cell a 4) u)

-- the lines of all rows
unfoldable pub row_lines : List ℕ → (answer held entries unmapped : List ℤ) → List (List ℕ)
row_lines x a h e u = map (held_numbers x) (rows_in held_width (cell a 2) h) ++ later_lines x a e u

-- the lines of a call that read
unfoldable pub accepted_lines : List ℕ → (answer held entries unmapped : List ℤ) → List (List ℕ)
accepted_lines x a h e u = (accepted_line x a ∷ map (group_numbers a) groups ++ map (term_numbers x a) terms) ++ row_lines x a h e u

-- the lines of a call: "`accepted` with the three counts, or `refused` with number and record"
unfoldable pub lines_of : List ℕ → (answer held entries unmapped : List ℤ) → List (List ℕ)
lines_of x a h e u = cond (there (cell a 0)) (refused_line x a ∷ []) (accepted_lines x a h e u)

-- how many they are: one, or 36 for the counts, groups and terms, and the rows
unfoldable pub line_count : (answer held entries unmapped : List ℤ) → ℕ
line_count a h e u = cond (there (cell a 0)) 1 (36 + row_count held_width (cell a 2) h + row_count entry_width (cell a 3) e + row_count unmapped_width (cell a 4) u)

-- numbers of 64 bits
abbrev pub Wide : List ℤ → Type 0
Wide l = (i : ℕ) → mag (cell l i) < 2 ^ 63

-- room for a line about a text of n bytes
abbrev pub line_room : ℕ → ℕ
line_room n = 3 * n + 256

-- those of what a call with this outcome leaves, lent lists h, e and u
abbrev pub exit_lines : List ℕ → (h e u : List ℤ) → Outcome → List (List ℕ)
exit_lines x h e u o =
    lines_of x (answer_row (result_of o)) (rows_then (result_of o).held h) (rows_then (result_of o).entries e) (rows_then (result_of o).unmapped u)
