-- The VAT category of a breakdown, an allowance or a charge in the code's terms.
use Rattle.std.specs.Prelude.{List, ◌++◌, ℕ, ℤ}
use Rattle.std.proofs.Math.Option.{Option, none}
use Rattle.text.specs.Utf8.{bytes}
use Rattle.text.specs.Options.{option_of}
use Rattle.report.specs.Rows.{Place}
use Rattle.settlement.specs.Document.{Doc, maybe}
use Rattle.settlement.specs.Values.{Says, grouped, text_in, required_code, percent, not_vat}
use Rattle.values.specs.Sites.{percent_in, code_in, not_vat_in}
use Rattle.groups.specs.declared.shapes.Category.{Category}
use Rattle.groups.specs.declared.shapes.CategoryKids.{CategoryKids}

-- the text of a child, if there is one
abbrev pub text_found : Doc ℕ Place → ℕ → Option ℕ → Option Place
text_found D mode o = maybe none (text_in D mode) o

-- category and rate of children, if they are there, with what they say; `category_kids` joins it to the next
unfoldable pub category_found : ℕ → ℕ → Doc ℕ Place → List ℕ → Category → ℕ → CategoryKids → Says Place (Place × Option (ℤ × ℕ))
category_found mode rules D x of g kids =
    let k = code_in rules of.rule (grouped of.whole (option_of of.category) g) (text_found D 0 (option_of kids.code)) in
    let r = percent_in x (grouped of.share (option_of of.rate) g) (text_found D mode (option_of kids.rate)) in
    ((k.0, r.0), not_vat_in x (grouped of.code (option_of of.category) g) (text_found D 0 (option_of kids.kind)) ++ (k.1 ++ r.1))

-- category and rate, with what they say: type code, category, rate
unfoldable pub category_says : ℕ → ℕ → Doc ℕ Place → Category → ℕ → ℕ → Says Place (Place × Option (ℤ × ℕ))
category_says mode rules D of g n =
    let k = required_code rules D of.rule (grouped of.whole (option_of of.category) g) n (bytes "CategoryCode") in
    let r = percent mode D (grouped of.share (option_of of.rate) g) n (bytes "RateApplicablePercent") in
    ((k.0, r.0), not_vat D (grouped of.code (option_of of.category) g) n ++ (k.1 ++ r.1))
