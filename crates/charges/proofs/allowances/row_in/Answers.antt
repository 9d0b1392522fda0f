use mathlib.Core.Path.{refl}
use native.Mathlib.Omega.{arith}
use Rattle.text.specs.Order.{equal}
use Rattle.text.specs.Utf8.{bytes, encode}
use Rattle.text.specs.Place.{place}
use Rattle.element.proofs.Documents.{kid_kept, kid_text_is}
use Rattle.values.proofs.Spelled.{percent_kid}
use Rattle.values.proofs.Telling.{told_as}
use Rattle.amounts.proofs.Spelled.{amount_kid, required_told}
use Rattle.charges.proofs.Steps.{category_kid, row_told}
use Rattle.charges.proofs.allowances.row_in.Goals as goal

pub returns : goal.returns
unfolding bytes encode equal place
returns c =
    let t = c.args.doc.now.table.records.now in
    let x = c.args.doc.now.table.text.now in
    let l = c.args.doc.now.links.now in
    let n = c.args.n in
    let kept = c.first_children.ensures in
    let tax = kid_kept t x l n _ (bytes "CategoryTradeTax") 0 6 kept refl refl (omega arith) in
    let actual = kid_kept t x l n _ (bytes "ActualAmount") 1 6 kept refl refl (omega arith) in
    let basis = kid_kept t x l n _ (bytes "BasisAmount") 2 6 kept refl refl (omega arith) in
    let share = kid_text_is t x l _ n (bytes "CalculationPercent") c.child_text-share.ensures (kid_kept t x l n _ _ 3 6 kept refl refl (omega arith)) in
    let reason = kid_text_is t x l 0 n (bytes "Reason") c.child_text.ensures (kid_kept t x l n _ _ 4 6 kept refl refl (omega arith)) in
    let code = kid_text_is t x l 0 n (bytes "ReasonCode") c.child_text-2.ensures (kid_kept t x l n _ _ 5 6 kept refl refl (omega arith)) in
    row_told _ _ _ _ _
    (told_as (category_kid t x l n (bytes "CategoryTradeTax") _ _ _ _ tax) (rw c.category_paths.ensures at (c.required_trade_tax-tax.ensures c.args.lent.now.currency.now)))
    (required_told t x l n (bytes "ActualAmount") _ c.wanted_amount-wanted.ensures actual c.required_amount-amount.ensures)
    (told_as (amount_kid t x l n (bytes "BasisAmount") _ _ basis) (rw c.grouped-site.ensures at c.amount-base.ensures))
    (told_as (percent_kid t x l n (bytes "CalculationPercent") _ _ share) (rw c.grouped-site-2.ensures at c.percent-percentage.ensures)) reason code
