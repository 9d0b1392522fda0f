-- What a call answers, in numbers (document 01, "Where each refusal is checked" and "Rows").
use Rattle.std.specs.Prelude.{List, [], ◌∷◌, ◌++◌, Bool, cond, ℕ, ℤ, pos, length}
use Rattle.std.proofs.Math.Option.{Option, none, some}
use Rattle.report.specs.Rows.{Place}
use Rattle.report.specs.Encoding.{text_cells, place_cells, amount_cells, or_absent, held_row, entry_row, unmapped_row, rows_of}
use Rattle.settlement.specs.Shapes.{Identifier, Payee, Means, unset, card, debit, transfers, Period, Totals, blank, Terms}
use Rattle.settlement.specs.Settlement.{terms_of}
use Rattle.settlement.specs.Outcome.{Outcome, refused, read}

-- 1 for what is present, 0 for what is not
abbrev pub flag : Bool → ℤ
flag b = cond b (pos 1) (pos 0)

-- an identifier and its scheme, two absent texts where there is none
abbrev pub identifier_cells : Option (Identifier Place) → List ℤ
identifier_cells none = text_cells none ++ text_cells none
identifier_cells (some i) = place_cells i.content ++ text_cells i.scheme

-- whether BG-10 is present; BT-59; BT-60 and BT-61, each with its scheme
abbrev pub payee_cells : Option (Payee Place) → List ℤ
payee_cells none = pos 0 ∷ text_cells none ++ identifier_cells none ++ identifier_cells none
payee_cells (some p) = pos 1 ∷ text_cells p.name ++ identifier_cells p.identifier ++ identifier_cells p.legal

-- whether BG-14 is present; BT-73, BT-74
abbrev pub period_cells : Option Period → List ℤ
period_cells none = pos 0 ∷ or_absent none ∷ or_absent none ∷ []
period_cells (some p) = pos 1 ∷ or_absent p.start ∷ or_absent p.end ∷ []

-- whether BG-18 is present; BT-87, BT-88; whether BG-19 is present; BT-91
abbrev pub means_cells : Means Place → List ℤ
means_cells unset = pos 0 ∷ text_cells none ++ text_cells none ++ pos 0 ∷ text_cells none
means_cells transfers = pos 0 ∷ text_cells none ++ text_cells none ++ pos 0 ∷ text_cells none
means_cells (card number holder) = pos 1 ∷ text_cells number ++ text_cells holder ++ pos 0 ∷ text_cells none
means_cells (debit account) = pos 0 ∷ text_cells none ++ text_cells none ++ pos 1 ∷ text_cells account

-- BT-106 to BT-115, those that may be absent with 1 or 0 before them
abbrev pub totals_cells : Totals → List ℤ
totals_cells t =
    t.line ∷
    amount_cells t.allowance ++
    amount_cells t.charge ++
    t.taxable ∷
    amount_cells t.vat ++
    amount_cells t.vat_accounting ++
    t.gross ∷
    amount_cells t.paid ++
    amount_cells t.rounding ++
    t.due ∷ []

-- the terms, ascending, the presence of a group before its terms: BT-5 to BT-9, BT-19, BT-20, BG-10, BG-14, BG-16 with BT-81 to BT-83, BG-18 and BG-19 with BT-89 and BT-90, BG-22
unfoldable pub terms_row : Terms Place → List ℤ
terms_row t =
    text_cells t.bt5 ++
    text_cells t.bt6 ++
    or_absent t.bt7 ∷
    or_absent t.bt8 ∷
    or_absent t.bt9 ∷
    text_cells t.bt19 ++
    text_cells t.bt20 ++
    payee_cells t.payee ++
    period_cells t.period ++
    flag t.paid ∷
    text_cells t.bt81 ++
    text_cells t.bt82 ++
    text_cells t.bt83 ++
    means_cells t.means ++
    text_cells t.bt89 ++
    text_cells t.bt90 ++
    totals_cells t.totals

-- blank terms: nothing present, BT-106, 109, 112 and 115 at 0
abbrev pub blank_terms : Terms Place
blank_terms = terms_of (blank Place)

-- refusal number (0: read) and record, the terms, how many rows there are of each kind, and their numbers
pub record Result : Type 0 where
  pub number : ℕ
  pub place : ℕ
  pub terms : Terms Place
  pub held_count : ℕ
  pub entry_count : ℕ
  pub unmapped_count : ℕ
  pub held : List ℤ
  pub entries : List ℤ
  pub unmapped : List ℤ

-- a refusal has blank terms, zero counts and no rows; a reading has its own
unfoldable pub result_of : Outcome → Result
result_of (refused n r) = record { number = n; place = r; terms = blank_terms; held_count = 0; entry_count = 0; unmapped_count = 0; held = []; entries = []; unmapped = [] }
result_of (read r) =
    record {
      number = 0;
      place = 0;
      terms = r.terms;
      held_count = length r.held;
      entry_count = length r.entries;
      unmapped_count = length r.unmapped;
      held = rows_of held_row r.held;
      entries = rows_of entry_row r.entries;
      unmapped = rows_of unmapped_row r.unmapped;
    }

-- the answer as one row: refusal number, record, counts of held rows, entries and unmapped rows, the terms
unfoldable pub answer_row : Result → List ℤ
answer_row r = pos r.number ∷ pos r.place ∷ pos r.held_count ∷ pos r.entry_count ∷ pos r.unmapped_count ∷ terms_row r.terms
