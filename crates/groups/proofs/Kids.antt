-- What is read of children that were looked for, by the definitions that look for them.
use mathlib.Core.Path.{◌≡◌, refl}
use mathlib.Core.List.{List}
use mathlib.Core.Option.{Option}
use Prim.Native.Nat.{ℕ}
use Rattle.text.specs.Utf8.{bytes}
use Rattle.text.specs.Options.{option_of}
use Rattle.report.specs.Rows.{Place}
use Rattle.settlement.specs.Document.{Doc}
use Rattle.settlement.specs.Shapes.{VatState}
use Rattle.settlement.specs.Tax.{point_date, point_code, fresh_code, again_code}
use Rattle.settlement.specs.Values.{kid}
use Rattle.element.specs.LinkDoc.{link_doc}
use Rattle.element.proofs.Documents.{kid_text_is}
use Rattle.values.proofs.Spelled.{percent_kid, date_kid, code_kid, vat_kid}
use Rattle.groups.specs.Categories.{category_found, category_says}
use Rattle.groups.specs.Taxes.{fresh_code_of, again_code_of, point_date_found, point_code_in, point_found, point_says}
use Rattle.groups.specs.declared.shapes.Category.{Category}
use Rattle.groups.specs.declared.shapes.CategoryKids.{CategoryKids}

module _ (t x l : List ℕ) (n : ℕ) where
  abbrev D : Doc ℕ Place
  D = link_doc t x l

  -- category and rate
  pub category_kids :
      (mode rules : ℕ) (of : Category) (g : ℕ) (kids : CategoryKids) → option_of kids.kind ≡ kid D n (bytes "TypeCode") → option_of kids.code ≡ kid D n (bytes "CategoryCode") → option_of kids.rate ≡ kid D n (bytes "RateApplicablePercent") →
      category_found mode rules D x of g kids ≡ category_says mode rules D of g n
  unfolding category_found category_says
  category_kids mode rules of g kids a b c =
      rw (
        vat_kid t x l n _ (kid_text_is t x l 0 n (bytes "TypeCode") refl a),
        code_kid t x l n (bytes "CategoryCode") rules of.rule _ (kid_text_is t x l 0 n (bytes "CategoryCode") refl b),
        percent_kid t x l n (bytes "RateApplicablePercent") mode _ (kid_text_is t x l mode n (bytes "RateApplicablePercent") refl c),
      )

  -- point date and code
  pub point_kids : {d c : Option ℕ} (mode : ℕ) (s : VatState Place) → d ≡ kid D n (bytes "TaxPointDate") → c ≡ kid D n (bytes "DueDateTypeCode") → point_found mode D x s d c ≡ point_says mode D s n
  unfolding point_found point_says point_date_found point_date point_code_in point_code fresh_code_of fresh_code again_code_of again_code
  point_kids mode s a b = rw (date_kid t x l n (bytes "TaxPointDate") mode _ a, kid_text_is t x l 0 n (bytes "DueDateTypeCode") refl b)
