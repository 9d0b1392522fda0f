use Rattle.groups.specs.Groups.{note_of}
use Rattle.settlement.specs.Settlement as reading
use Rattle.values.proofs.Spelled.{date_kid}
use Rattle.text.specs.Utf8.{bytes, encode}
use Rattle.groups.proofs.periods.payment_terms.Goals as goal

pub returns : goal.returns
unfolding reading.payment_terms_of note_of bytes encode
returns c =
    let d = rw (date_kid _ _ _ _ _ _ _ c.kid.ensures) at c.date.ensures in
    record { same = rw (c.description.ensures, d.same, c.kid_text.ensures); said = d.said }
