use mathlib.Core.Path.{refl}
use native.Mathlib.Omega.{arith}
use Rattle.text.specs.Order.{equal}
use Rattle.text.specs.Place.{place}
use Rattle.text.specs.Utf8.{bytes, encode}
use Rattle.element.proofs.Documents.{kid_kept}
use Rattle.amounts.proofs.Spelled.{required_told}
use Rattle.totals.proofs.Walks.{totals_acted}
use Rattle.totals.proofs.summation.totals.Goals as goal

pub returns : goal.returns
unfolding bytes encode equal place
returns c =
    let n = c.args.n in
    let kept = c.first_children.ensures in
    λ h. totals_acted _ _ _ _ (c.sums-sums.ensures h)
    (required_told _ _ _ n _ _ c.wanted-q.ensures (kid_kept _ _ _ _ _ _ 0 4 kept refl refl (omega arith)) c.required_amount-line.ensures)
    (required_told _ _ _ n _ _ c.wanted-q-2.ensures (kid_kept _ _ _ _ _ _ 1 4 kept refl refl (omega arith)) c.required_amount-taxable.ensures)
    (required_told _ _ _ n _ _ c.wanted-q-3.ensures (kid_kept _ _ _ _ _ _ 2 4 kept refl refl (omega arith)) c.required_amount-gross.ensures)
    (required_told _ _ _ n _ _ c.wanted-q-4.ensures (kid_kept _ _ _ _ _ _ 3 4 kept refl refl (omega arith)) c.required_amount-due.ensures)
