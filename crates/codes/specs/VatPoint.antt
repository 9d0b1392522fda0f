-- The code of the date at which VAT becomes accountable (EN 16931-1, BT-8).
use Rattle.std.specs.Prelude.{List, [], ◌∷◌, ℕ}
use Prim.Native.String.{String}
use Rattle.text.specs.Answer.{Answer, read, says}
use Rattle.codes.specs.CodeList.{meaning}
use Rattle.std.specs.Prelude.{Option, None, Some}

-- CII's codes (UNTDID 2475) and those of EN 16931 (UNTDID 2005): invoice issue date, actual delivery date, paid to date
unfoldable pub vat_point_date_codes : List (String × ℕ)
vat_point_date_codes = ("5", 3) ∷ ("29", 35) ∷ ("72", 432) ∷ []

-- the code of EN 16931 for one of CII, message 15 for any other text (document 01, `cii/mod.rs`)
unfoldable pub vat_point_date_code_of : List ℕ → Answer ℕ
vat_point_date_code_of s = meaning 15 vat_point_date_codes s

-- what an answer of `vat_point_date_code_from_cii` says
abbrev pub vat_point_answer : Option ℕ → Answer ℕ
vat_point_answer (Some n) = read n
vat_point_answer None = says 15
