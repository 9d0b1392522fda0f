-- What was told of the parts of a group, put together.
use mathlib.Core.Path.{◌≡◌, ap}
use mathlib.Core.Bool.{false}
use mathlib.Core.List.{List}
use mathlib.Core.Option.{Option, some}
use Prim.Native.Nat.{ℕ}
use lib.IntN.{ℤ}
use Rattle.text.specs.Utf8.{bytes}
use Rattle.text.specs.Options.{option_of}
use Rattle.codes.specs.declared.rules.Rule.TheVariants as Rule
use Rattle.names.specs.declared.path.Path.TheVariants as Path
use Rattle.names.specs.declared.term.Term.TheVariants as Term
use Rattle.report.specs.Rows.{Place}
use Rattle.settlement.specs.Document.{Doc}
use Rattle.settlement.specs.Settlement as reading
use Rattle.settlement.specs.Shapes.{VatState}
use Rattle.settlement.specs.Values.{Lent, Site, grouped, kid_text, required_code, date}
use Rattle.values.specs.Sites.{percent_in, code_in, not_vat_in}
use Rattle.values.specs.Told.{Said, Told}
use Rattle.values.specs.declared.saying.Entries.{Entries}
use Rattle.values.proofs.Telling.{said_then}
use Rattle.groups.proofs.Made.{pair_made, state_made, vat_made}
use Rattle.groups.specs.declared.shapes.Category.{Category}
use Rattle.groups.specs.declared.shapes.CategoryKids.{CategoryKids}
use Rattle.groups.specs.Groups.{said, preceding_says}
use Rattle.groups.specs.Categories.{text_found, category_found, category_says}
use Rattle.groups.specs.Taxes.{vat_category, point_date_found, point_code_in, point_found, point_says, basis_amount, calculated_amount, trade_tax_says}

module _ {e₀ e₁ e₂ : Entries} where
  -- a category: type code, category, rate
  pub category_told :
      {e₃ : Entries} {u v w : Site} {i j q : Option Place} {k : Place} {r : Option (ℤ × ℕ)} (mode rules : ℕ) (D : Doc ℕ Place) (x : List ℕ) (of : Category) (g : ℕ) (kids : CategoryKids) → u ≡ grouped of.code (option_of of.category) g →
      v ≡ grouped of.whole (option_of of.category) g → w ≡ grouped of.share (option_of of.rate) g → i ≡ text_found D 0 (option_of kids.kind) → j ≡ text_found D 0 (option_of kids.code) → q ≡ text_found D mode (option_of kids.rate) →
      Said (not_vat_in x u i) e₀ e₁ → Told (code_in rules of.rule v j) e₁ k e₂ → Told (percent_in x w q) e₂ r e₃ → Told (category_found mode rules D x of g kids) e₀ (k, r) e₃
  unfolding category_found
  category_told mode rules D x of g kids e f h i j q y z p =
      let k = rw (f, j) at z in
      let r = rw (h, q) at p in
      record { same = pair_made k.same r.same; said = said_then (rw (e, i) at y) (said_then k.said r.said) }

  -- a period: start and end
  pub period_told :
      {d e : Option ℕ} (mode : ℕ) (D : Doc ℕ Place) (n : ℕ) → Told (date mode D false Path.PeriodStartDateTimeString Path.PeriodStartDateString n (bytes "StartDateTime")) e₀ d e₁ →
      Told (date mode D false Path.PeriodEndDateTimeString Path.PeriodEndDateString n (bytes "EndDateTime")) e₁ e e₂ → Told (said (reading.period_of mode D n)) e₀ (some (record { start = d; end = e })) e₂
  unfolding reading.period_of
  period_told mode D n p q = record { same = rw (p.same, q.same); said = said_then p.said q.said }

  -- a preceding invoice: reference and date
  pub preceding_told :
      {u : Site} {k : Place} {d : Option ℕ} (mode rules : ℕ) (D : Doc ℕ Place) (g n : ℕ) → u ≡ grouped Path.SettlementInvoiceReferencedDocument (some Term.Bt25) g → Told (required_code rules D Rule.Br55 u n (bytes "IssuerAssignedID")) e₀ k e₁ →
      Told (date mode D false Path.ReferencedDocumentIssueDateTimeString Path.ReferencedDocumentIssueDateString n (bytes "FormattedIssueDateTime")) e₁ d e₂ → Told (preceding_says mode rules D g n) e₀ (record { reference = k; date = d }) e₂
  unfolding preceding_says
  preceding_told mode rules D g n e p q =
      let r = rw e at p in
      record { same = rw (r.same, q.same); said = said_then r.said q.said }

  -- point date and code
  pub point_told :
      {d : Option ℕ} {t : VatState Place} {o : Option Place} (mode : ℕ) (D : Doc ℕ Place) (x : List ℕ) (s : VatState Place) (date code : Option ℕ) → o ≡ text_found D 0 code → Told (point_date_found mode D s date) e₀ d e₁ →
      Told (point_code_in x s o) e₁ t e₂ → Told (point_found mode D x s date code) e₀ (record { count = s.count; point = d; code = t.code; first = t.first }) e₂
  unfolding point_found
  point_told mode D x s date code e p w =
      let q = rw e at w in
      record { same = state_made _ p.same (ap (λ (s : VatState Place). s.code) q.same) (ap (λ (s : VatState Place). s.first) q.same); said = said_then p.said q.said }

  -- a VAT breakdown: point date and code, taxable amount, tax amount, category and rate, exemption reason and its code
  pub vat_breakdown_told :
      {e₃ e₄ : Entries} {p : VatState Place} {z t : ℤ} {of : Category} {k : Place} {q : Option (ℤ × ℕ)} {x y : Option Place} (L : Lent) (D : Doc ℕ Place) (s : VatState Place) (n : ℕ) → Told (point_says L.mode D s n) e₀ p e₁ →
      Told (basis_amount L D s.count n) e₁ z e₂ → Told (calculated_amount L D s.count n) e₂ t e₃ → of ≡ vat_category → Told (category_says L.mode L.rules D of s.count n) e₃ (k, q) e₄ →
      x ≡ kid_text D 0 n (bytes "ExemptionReason") → y ≡ kid_text D 0 n (bytes "ExemptionReasonCode") → Told (trade_tax_says L D s n) e₀ (p, record { taxable = z; tax = t; category = k; rate = q; reason = x; code = y }) e₄
  unfolding trade_tax_says
  vat_breakdown_told L D s n p v t o k e f =
      let r = rw o at k in
      record {
        same = vat_made p.same v.same t.same (ap (λ (k : Place × Option (ℤ × ℕ)). k.0) r.same) (ap (λ (k : Place × Option (ℤ × ℕ)). k.1) r.same) e f;
        said = said_then p.said (said_then v.said (said_then t.said r.said));
      }
