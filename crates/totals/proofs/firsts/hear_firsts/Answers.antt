use mathlib.Core.Path.{refl}
use native.Mathlib.Omega.{arith}
use Rattle.text.specs.Order.{equal}
use Rattle.text.specs.Place.{place}
use Rattle.text.specs.Utf8.{bytes, encode}
use Rattle.element.proofs.Documents.{kid_kept}
use Rattle.totals.proofs.Heard.{kid_heard}
use Rattle.totals.proofs.firsts.hear_firsts.Goals as goal

pub returns : goal.returns
unfolding bytes encode equal place
returns c =
    let kept = c.first_children.ensures in
    record {
      allowance = kid_heard _ _ _ _ c.site-site.ensures (kid_kept _ _ _ _ _ _ 0 4 kept refl refl (omega arith)) c.hear_child-allowance.ensures;
      charge = kid_heard _ _ _ _ c.site-site-2.ensures (kid_kept _ _ _ _ _ _ 1 4 kept refl refl (omega arith)) c.hear_child-charge.ensures;
      rounding = kid_heard _ _ _ _ c.site-site-3.ensures (kid_kept _ _ _ _ _ _ 2 4 kept refl refl (omega arith)) c.hear_child-rounding.ensures;
      paid = kid_heard _ _ _ _ c.site-site-4.ensures (kid_kept _ _ _ _ _ _ 3 4 kept refl refl (omega arith)) c.hear_child-paid.ensures;
    }
