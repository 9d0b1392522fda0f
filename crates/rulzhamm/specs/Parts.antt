-- The answer as a row, in the parts in which it is put.
use Rattle.text.specs.Options.{option_of}
use Rattle.std.specs.Prelude.{List, [], ◌∷◌, ◌++◌, ◌<◌, ◌^◌, ℤ, pos}
use Rattle.report.specs.Encoding.{text_cells, or_absent}
use Rattle.report.specs.Values.{text_of}
use Rattle.settlement.specs.Result.{flag, terms_row}
use Rattle.reader.specs.Answers.{Answer}
use Rattle.terms.specs.declared.terms.Terms.{Terms}

-- BT-5 to BT-9, BT-19 and BT-20
abbrev pub plain_cells : Terms → List ℤ
plain_cells t =
    text_cells (text_of t.bt5) ++
    text_cells (text_of t.bt6) ++
    or_absent (option_of t.bt7) ∷
    or_absent (option_of t.bt8) ∷
    or_absent (option_of t.bt9) ∷
    text_cells (text_of t.bt19) ++
    text_cells (text_of t.bt20)

-- BG-16: BT-81 to BT-83
abbrev pub payment_cells : Terms → List ℤ
payment_cells t = flag t.paid ∷ text_cells (text_of t.bt81) ++ text_cells (text_of t.bt82) ++ text_cells (text_of t.bt83)

-- refusal number, record, counts
abbrev pub count_cells : Answer → List ℤ
count_cells a = pos a.refusal ∷ pos a.place ∷ pos a.held ∷ pos a.entries ∷ pos a.unmapped ∷ []

-- the whole row
abbrev pub answer_cells : Answer → List ℤ
answer_cells a = count_cells a ++ terms_row a.terms

-- record and counts are numbers of 63 bits
abbrev pub Small : Answer → Type 0
Small a = (a.place < 2 ^ 63) × (a.held < 2 ^ 63) × (a.entries < 2 ^ 63) × (a.unmapped < 2 ^ 63)
