use mathlib.Core.Path.{refl}
use native.Mathlib.Omega.{arith}
use Rattle.text.specs.Order.{equal}
use Rattle.text.specs.Utf8.{bytes, encode}
use Rattle.text.specs.Place.{place}
use Rattle.element.proofs.Documents.{kid_kept, kid_text_is}
use Rattle.values.proofs.Telling.{told_as}
use Rattle.values.proofs.Spelled.{code_kid, date_kid}
use Rattle.groups.proofs.Steps.{preceding_told}
use Rattle.groups.proofs.references.preceding.Goals as goal

pub returns : goal.returns
unfolding bytes encode equal place
returns c =
    let t = c.args.doc.now.table.records.now in
    let x = c.args.doc.now.table.text.now in
    let l = c.args.doc.now.links.now in
    let n = c.args.n in
    let kept = c.first_children.ensures in
    let id = kid_text_is t x l 0 n (bytes "IssuerAssignedID") c.child_text-id.ensures (kid_kept t x l n _ _ 0 2 kept refl refl (omega arith)) in
    let issue = kid_kept t x l n _ (bytes "FormattedIssueDateTime") 1 2 kept refl refl (omega arith) in
    preceding_told _ _ _ _ _ c.grouped-site.ensures (told_as (code_kid t x l n (bytes "IssuerAssignedID") _ _ _ id) c.required_code.ensures) (told_as (date_kid t x l n (bytes "FormattedIssueDateTime") _ _ issue) c.date.ensures)
