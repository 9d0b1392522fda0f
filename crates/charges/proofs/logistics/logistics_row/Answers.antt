use mathlib.Core.Path.{refl}
use native.Mathlib.Omega.{arith}
use Rattle.text.specs.Order.{equal}
use Rattle.text.specs.Utf8.{bytes, encode}
use Rattle.text.specs.Place.{place}
use Rattle.element.proofs.Documents.{kid_kept, kid_text_is}
use Rattle.values.proofs.Telling.{told_as}
use Rattle.amounts.proofs.Spelled.{required_told}
use Rattle.charges.proofs.Steps.{category_kid, logistics_told}
use Rattle.charges.proofs.logistics.logistics_row.Goals as goal

pub returns : goal.returns
unfolding bytes encode equal place
returns c =
    let t = c.args.doc.now.table.records.now in
    let x = c.args.doc.now.table.text.now in
    let l = c.args.doc.now.links.now in
    let n = c.args.n in
    let kept = c.first_children.ensures in
    let tax = kid_kept t x l n _ (bytes "AppliedTradeTax") 0 3 kept refl refl (omega arith) in
    let applied = kid_kept t x l n _ (bytes "AppliedAmount") 1 3 kept refl refl (omega arith) in
    let reason = kid_text_is t x l 0 n (bytes "Description") c.child_text.ensures (kid_kept t x l n _ _ 2 3 kept refl refl (omega arith)) in
    logistics_told _ _ _ _ c.charge_group-g.ensures
    (told_as (category_kid t x l n (bytes "AppliedTradeTax") _ _ _ _ tax) (rw c.applied_paths.ensures at (c.required_trade_tax-tax.ensures c.args.lent.now.currency.now)))
    (required_told t x l n (bytes "AppliedAmount") _ c.wanted_amount-wanted.ensures applied c.required_amount-amount.ensures) reason
