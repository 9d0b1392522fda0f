use mathlib.Core.Path.{refl}
use native.Mathlib.Omega.{arith}
use Rattle.text.specs.Order.{equal}
use Rattle.text.specs.Utf8.{bytes, encode}
use Rattle.text.specs.Place.{place}
use Rattle.element.proofs.Documents.{kid_kept}
use Rattle.values.proofs.Telling.{told_as}
use Rattle.groups.proofs.Kids.{category_kids}
use Rattle.groups.proofs.categories.trade_tax.Goals as goal

pub returns : goal.returns
unfolding bytes encode equal place
returns c =
    let t = c.args.doc.now.table.records.now in
    let x = c.args.doc.now.table.text.now in
    let l = c.args.doc.now.links.now in
    let n = c.args.n in
    let kept = c.first_children.ensures in
    told_as
    (category_kids t x l n _ _ _ _ _ (kid_kept t x l n _ _ 0 3 kept refl refl (omega arith)) (kid_kept t x l n _ _ 1 3 kept refl refl (omega arith)) (kid_kept t x l n _ _ 2 3 kept refl refl (omega arith)))
    c.category_of.ensures
