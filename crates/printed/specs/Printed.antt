-- The printed reading (document 01, "The printed reading"): the lines of an outcome, over what the places of its texts show.
use Rattle.std.specs.Prelude.{Bool, true, false, cond, not, ℕ, ℤ, length}
use mathlib.Core.List.{List, [], ◌∷◌, ◌++◌, map, flatten}
use Rattle.std.proofs.Math.Option
use Rattle.std.proofs.Math.Option.{Option, none, some}
use Rattle.text.specs.Utf8.{bytes}
use Rattle.names.specs.Message.{message_number}
use Rattle.names.specs.declared.term.Term.{Term}
use Rattle.labels.specs.PathText.{path_text}
use Rattle.labels.specs.TermName.{term_group, term_name}
use Rattle.labels.specs.ParentName.{parent_name}
use Rattle.report.specs.Rows.{Entry, AllowanceCharge, Held, transfer, vat, allowance, charge, preceding, Unmapped}
use Rattle.report.specs.Encoding.{or_absent}
use Rattle.settlement.specs.Document.{maybe}
use Rattle.settlement.specs.Shapes.{Identifier, Means, unset, card, debit, transfers, Terms, Reading}
use Rattle.settlement.specs.Summation.{is_none}
use Rattle.settlement.specs.Outcome.{Outcome, refused, read, shown}
use Rattle.decimals.specs.Decimal.{decimal, signed}
use Rattle.fields.specs.Line.{printable, field, percentage, line}
use Rattle.lines.specs.Labels.{term_text}

-- a text, "bytes below 32 print as a space"
abbrev pub text_field : Option (List ℕ) → List ℕ
text_field t = field (Option.map printable t)

-- an amount "in hundredths"
abbrev pub amount_field : Option ℤ → List ℕ
amount_field a = field (Option.map signed a)

-- "a percentage is unscaled, slash, scale"
abbrev pub percent_field : Option (ℤ × ℕ) → List ℕ
percent_field q = field (Option.map (λ p. percentage p.0 p.1) q)

-- a date, CCYYMMDD
abbrev pub date_field : Option ℕ → List ℕ
date_field d = field (Option.map decimal d)

-- "`group` for present BG-10, .."
abbrev pub group_line : ℕ → Bool → List ℕ
group_line n there = cond there (line "group" ((bytes "BG-" ++ decimal n) ∷ [])) []

-- "`term` with number and content"; "absent terms are not printed"
abbrev pub term_line : ℕ → Option (List ℕ) → List ℕ
term_line n none = []
term_line n (some s) = line "term" ((bytes "BT-" ++ decimal n) ∷ s ∷ [])

-- "then scheme, if any"
abbrev pub identifier_line : ℕ → Option (Identifier (List ℕ)) → List ℕ
identifier_line n none = []
identifier_line n (some i) = line "term" ((bytes "BT-" ++ decimal n) ∷ printable i.content ∷ maybe [] (λ s. printable s ∷ []) i.scheme)

-- BG-18: BT-87, BT-88
abbrev pub is_card : {X : Type 0} → Means X → Bool
is_card unset = false
is_card (card a b) = true
is_card (debit a) = false
is_card transfers = false

-- BG-19
abbrev pub is_debit : {X : Type 0} → Means X → Bool
is_debit unset = false
is_debit (card a b) = false
is_debit (debit a) = true
is_debit transfers = false

-- BT-87
abbrev pub card_number : {X : Type 0} → Means X → Option X
card_number unset = none
card_number (card a b) = a
card_number (debit a) = none
card_number transfers = none

-- BT-88
abbrev pub card_holder : {X : Type 0} → Means X → Option X
card_holder unset = none
card_holder (card a b) = b
card_holder (debit a) = none
card_holder transfers = none

-- BT-91
abbrev pub debited_account : {X : Type 0} → Means X → Option X
debited_account unset = none
debited_account (card a b) = none
debited_account (debit a) = a
debited_account transfers = none

-- BG-10, BG-14, BG-16, BG-18 (card), BG-19 (direct debit)
unfoldable pub group_lines : Terms (List ℕ) → List (List ℕ)
group_lines t =
    group_line 10 (not (is_none t.payee)) ∷
    group_line 14 (not (is_none t.period)) ∷
    group_line 16 t.paid ∷
    group_line 18 (is_card t.means) ∷
    group_line 19 (is_debit t.means) ∷ []

-- a term that is a text, a date, a code's number or an amount
abbrev pub text_line : ℕ → Option (List ℕ) → List ℕ
text_line n t = term_line n (Option.map printable t)

abbrev pub number_line : ℕ → Option ℕ → List ℕ
number_line n d = term_line n (Option.map decimal d)

abbrev pub amount_line : ℕ → Option ℤ → List ℕ
amount_line n a = term_line n (Option.map signed a)

-- the terms, "ascending"
unfoldable pub term_lines : Terms (List ℕ) → List (List ℕ)
term_lines t =
    text_line 5 t.bt5 ∷
    text_line 6 t.bt6 ∷
    number_line 7 t.bt7 ∷
    number_line 8 t.bt8 ∷
    number_line 9 t.bt9 ∷
    text_line 19 t.bt19 ∷
    text_line 20 t.bt20 ∷
    text_line 59 (maybe none (λ p. p.name) t.payee) ∷
    identifier_line 60 (maybe none (λ p. p.identifier) t.payee) ∷
    identifier_line 61 (maybe none (λ p. p.legal) t.payee) ∷
    number_line 73 (maybe none (λ p. p.start) t.period) ∷
    number_line 74 (maybe none (λ p. p.end) t.period) ∷
    text_line 81 t.bt81 ∷
    text_line 82 t.bt82 ∷
    text_line 83 t.bt83 ∷
    text_line 87 (card_number t.means) ∷
    text_line 88 (card_holder t.means) ∷
    text_line 89 t.bt89 ∷
    text_line 90 t.bt90 ∷
    text_line 91 (debited_account t.means) ∷
    amount_line 106 (some t.totals.line) ∷
    amount_line 107 t.totals.allowance ∷
    amount_line 108 t.totals.charge ∷
    amount_line 109 (some t.totals.taxable) ∷
    amount_line 110 t.totals.vat ∷
    amount_line 111 t.totals.vat_accounting ∷
    amount_line 112 (some t.totals.gross) ∷
    amount_line 113 t.totals.paid ∷
    amount_line 114 t.totals.rounding ∷
    amount_line 115 (some t.totals.due) ∷ []

-- amount, base, percentage, category, rate, reason, code
abbrev pub allowance_charge_line : ℕ → AllowanceCharge (List ℕ) → List ℕ
allowance_charge_line kind a =
    line "held"
    (decimal kind ∷
    signed a.amount ∷
    amount_field a.base ∷
    percent_field a.percentage ∷
    printable a.category ∷
    percent_field a.rate ∷
    text_field a.reason ∷
    text_field a.code ∷ [])

-- "`held` with kind and fields"
unfoldable pub held_line : Held (List ℕ) → List ℕ
held_line (transfer t) = line "held" (decimal 1 ∷ text_field t.account ∷ text_field t.name ∷ text_field t.provider ∷ [])
held_line (vat v) =
    line "held"
    (decimal 2 ∷
    signed v.taxable ∷
    signed v.tax ∷
    printable v.category ∷
    percent_field v.rate ∷
    text_field v.reason ∷
    text_field v.code ∷ [])
held_line (allowance a) = allowance_charge_line 3 a
held_line (charge a) = allowance_charge_line 4 a
held_line (preceding p) = line "held" (decimal 5 ∷ printable p.reference ∷ date_field p.date ∷ [])

-- a term with its group and the group's index, `-` for no term
unfoldable pub term_field : Option Term → Option ℕ → List ℕ
term_field t index = field (Option.map (λ t. term_text (bytes (term_group t)) (or_absent index) (bytes (term_name t))) t)

-- "`entry` with message, path, term, value"
unfoldable pub entry_line : Entry (List ℕ) → List ℕ
entry_line e = line "entry" (decimal (message_number e.message) ∷ bytes (path_text e.path) ∷ term_field e.term e.index ∷ text_field e.value ∷ [])

-- "`unmapped` with path"
unfoldable pub unmapped_line : Unmapped (List ℕ) → List ℕ
unmapped_line u = line "unmapped" ((bytes (parent_name u.parent) ++ bytes "/" ++ printable u.name) ∷ [])

-- the lines of a reading; that of an absent group or term is empty
unfoldable pub reading_lines : Reading (List ℕ) → List (List ℕ)
reading_lines r =
    line "accepted" (decimal (length r.held) ∷ decimal (length r.entries) ∷ decimal (length r.unmapped) ∷ []) ∷
    group_lines r.terms ++
    term_lines r.terms ++
    map held_line r.held ++
    map entry_line r.entries ++
    map unmapped_line r.unmapped

-- the lines of an outcome: "`accepted` with the three counts, or `refused` with number and record"
unfoldable pub outcome_lines : List ℕ → Outcome → List (List ℕ)
outcome_lines x (refused n r) = line "refused" (decimal n ∷ decimal r ∷ []) ∷ []
outcome_lines x (read r) = reading_lines (shown x r)

-- the printed reading of an outcome, its places being in the text x
unfoldable pub printed : List ℕ → Outcome → List ℕ
printed x o = flatten (outcome_lines x o)
