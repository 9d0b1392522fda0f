use mathlib.Core.Path.{refl}
use native.Mathlib.Omega.{arith}
use Rattle.text.specs.Order.{equal}
use Rattle.text.specs.Utf8.{bytes, encode}
use Rattle.text.specs.Place.{place}
use Rattle.element.proofs.Documents.{kid_kept, kid_text_is}
use Rattle.values.proofs.Telling.{told_as}
use Rattle.amounts.proofs.Spelled.{required_told}
use Rattle.groups.proofs.Kids.{category_kids, point_kids}
use Rattle.groups.proofs.Steps.{vat_breakdown_told}
use Rattle.groups.proofs.taxes.vat_breakdown.Goals as goal

pub returns : goal.returns
unfolding bytes encode equal place
returns c =
    let t = c.args.doc.now.table.records.now in
    let x = c.args.doc.now.table.text.now in
    let l = c.args.doc.now.links.now in
    let n = c.args.n in
    let kept = c.first_children.ensures in
    let basis = kid_kept t x l n _ (bytes "BasisAmount") 2 9 kept refl refl (omega arith) in
    let calculated = kid_kept t x l n _ (bytes "CalculatedAmount") 3 9 kept refl refl (omega arith) in
    let reason = kid_kept t x l n _ (bytes "ExemptionReason") 7 9 kept refl refl (omega arith) in
    let reason-code = kid_kept t x l n _ (bytes "ExemptionReasonCode") 8 9 kept refl refl (omega arith) in
    vat_breakdown_told _ _ _ _
    (told_as (point_kids t x l n _ _ (kid_kept t x l n _ _ 0 9 kept refl refl (omega arith)) (kid_kept t x l n _ _ 1 9 kept refl refl (omega arith))) c.point-state.ensures)
    (required_told t x l n _ _ c.wanted-q.ensures basis c.required_amount-taxable.ensures)
    (required_told t x l n _ _ c.wanted-q-2.ensures calculated c.required_amount-tax.ensures)
    c.vat_category.ensures
    (told_as
    (category_kids t x l n _ _ _ _ _ (kid_kept t x l n _ _ 4 9 kept refl refl (omega arith)) (kid_kept t x l n _ _ 5 9 kept refl refl (omega arith)) (kid_kept t x l n _ _ 6 9 kept refl refl (omega arith)))
    c.category_of-category.ensures)
    (kid_text_is t x l 0 n (bytes "ExemptionReason") c.child_text.ensures reason)
    (kid_text_is t x l 0 n (bytes "ExemptionReasonCode") c.child_text-2.ensures reason-code)
