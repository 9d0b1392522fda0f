-- The rows as signed numbers (document 01, "Rows").
use Rattle.std.specs.Prelude.{cond, List, [], ◌∷◌, ◌++◌, ℕ, zero, suc, ◌*◌, ◌-◌, eqb, ℤ, pos, negsuc, length, replicate, take, drop}
use Rattle.std.proofs.Math.Option.{Option, none, some}
use Rattle.names.specs.Message.{message_number}
use Rattle.names.specs.Path.{path_number}
use Rattle.names.specs.Term.{maybe_term_number}
use Rattle.names.specs.Parent.{parent_number}
use Rattle.report.specs.Rows.{Place, Entry, AllowanceCharge, Held, transfer, vat, allowance, charge, preceding, Unmapped}

-- the numbers of an entry: "Entry, 6"
abbrev pub entry_width : ℕ
entry_width = 6

-- of what is held: "Held, 14 numbers"
abbrev pub held_width : ℕ
held_width = 14

-- of an unmapped element: "Unmapped, 3"
abbrev pub unmapped_width : ℕ
unmapped_width = 3

-- the entries that there must be room for, for each record of a table; of held rows and unmapped rows one each (document 01, refusal 10)
abbrev pub record_entries : ℕ
record_entries = 4

-- the room for them, in numbers
abbrev pub held_room : ℕ
held_room = held_width

abbrev pub entry_room : ℕ
entry_room = record_entries * entry_width

abbrev pub unmapped_room : ℕ
unmapped_room = unmapped_width

-- -1, for what is absent
abbrev pub absent : ℤ
absent = negsuc 0

-- a place as a row shows it: an empty text starts at 0, wherever it was cut
unfoldable pub tidy : Place → Place
tidy p = record { start = cond (eqb p.len 0) 0 p.start; len = p.len }

-- where a text starts; an empty one at 0
abbrev pub place_start : Place → ℤ
place_start p = pos (tidy p).start

-- a text's length
abbrev pub place_length : Place → ℤ
place_length p = pos p.len

-- the start, -1 where it is absent
abbrev pub text_start : Option Place → ℤ
text_start none = absent
text_start (some p) = place_start p

-- the length, 0 where it is absent
abbrev pub text_length : Option Place → ℤ
text_length none = pos 0
text_length (some p) = place_length p

-- a percentage's unscaled number, 0 where it is absent
abbrev pub unscaled : Option (ℤ × ℕ) → ℤ
unscaled none = pos 0
unscaled (some q) = q.0

-- the scale, -1 where it is absent
abbrev pub scale : Option (ℤ × ℕ) → ℤ
scale none = absent
scale (some q) = pos q.1

-- whether an amount is present, 1 or 0
abbrev pub present : Option ℤ → ℤ
present none = pos 0
present (some a) = pos 1

-- the amount, 0 where it is absent
abbrev pub hundredths : Option ℤ → ℤ
hundredths none = pos 0
hundredths (some a) = a

-- a date or an index, absent -1
abbrev pub or_absent : Option ℕ → ℤ
or_absent none = absent
or_absent (some n) = pos n

-- the two numbers of a text
abbrev pub place_cells : Place → List ℤ
place_cells p = place_start p ∷ place_length p ∷ []

-- of a text that may be absent
abbrev pub text_cells : Option Place → List ℤ
text_cells t = text_start t ∷ text_length t ∷ []

-- of a percentage
abbrev pub percent_cells : Option (ℤ × ℕ) → List ℤ
percent_cells q = unscaled q ∷ scale q ∷ []

-- of an amount that may be absent
abbrev pub amount_cells : Option ℤ → List ℤ
amount_cells a = present a ∷ hundredths a ∷ []

-- message, path, term, group index or -1, value
unfoldable pub entry_row : Entry Place → List ℤ
entry_row e =
    pos (message_number e.message) ∷ pos (path_number e.path) ∷ pos (maybe_term_number e.term) ∷ or_absent e.index ∷ text_cells e.value

-- unused numbers are 0
abbrev pub filled : List ℤ → List ℤ
filled vs = vs ++ replicate (held_width - length vs) (pos 0)

-- amount, base present, base, percentage, category, rate, reason, code
abbrev pub allowance_charge_row : ℕ → AllowanceCharge Place → List ℤ
allowance_charge_row kind a =
    filled
    (pos kind ∷
    a.amount ∷
    amount_cells a.base ++
    percent_cells a.percentage ++
    place_cells a.category ++
    percent_cells a.rate ++
    text_cells a.reason ++
    text_cells a.code)

-- 1 transfer (account, name, provider); 2 VAT (taxable, tax, category, rate, exemption reason, its code); 3 allowance and 4 charge; 5 preceding invoice (reference, date)
unfoldable pub held_row : Held Place → List ℤ
held_row (transfer t) = filled (pos 1 ∷ text_cells t.account ++ text_cells t.name ++ text_cells t.provider)
held_row (vat v) =
    filled (pos 2 ∷ v.taxable ∷ v.tax ∷ place_cells v.category ++ percent_cells v.rate ++ text_cells v.reason ++ text_cells v.code)
held_row (allowance a) = allowance_charge_row 3 a
held_row (charge a) = allowance_charge_row 4 a
held_row (preceding p) = filled (pos 5 ∷ place_cells p.reference ++ or_absent p.date ∷ [])

-- parent and name
unfoldable pub unmapped_row : Unmapped Place → List ℤ
unmapped_row u = pos (parent_number u.parent) ∷ place_cells u.name

-- rows one after the other
unfoldable pub rows_of : {A : Type 0} → (A → List ℤ) → List A → List ℤ
rows_of row [] = []
rows_of row (a ∷ l) = row a ++ rows_of row l

-- a list into which rows were put: the rows, then what it held after that many numbers
abbrev pub rows_then : List ℤ → List ℤ → List ℤ
rows_then rows before = rows ++ drop (length rows) before

-- the first n rows of a list, each w numbers wide
unfoldable pub cut_rows : ℕ → ℕ → List ℤ → List (List ℤ)
cut_rows w zero l = []
cut_rows w (suc n) l = take w l ∷ cut_rows w n (drop w l)
