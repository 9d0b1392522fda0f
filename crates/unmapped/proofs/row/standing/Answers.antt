use Rattle.settlement.specs.TableDoc.{shows}
use Rattle.unmapped.proofs.Reading.{standing_less, standing_greater, standing_names}
use Rattle.unmapped.proofs.row.standing.Goals as goal

pub returns-then-own-held : goal.returns-then-own-held
returns-then-own-held c = standing_less _ _ _ _ c.from-own.ensures c.number-held.ensures c.if-own-held.true

pub returns-then-own-held-2 : goal.returns-then-own-held-2
returns-then-own-held-2 c = standing_greater _ _ _ _ c.from-own.ensures c.number-held.ensures c.if-own-held.false c.if-own-held-2.true

pub returns : goal.returns
unfolding shows
returns c =
    standing_names _ _ _ _ c.from-own.ensures c.number-held.ensures c.if-own-held.false c.if-own-held-2.false
    c.bytes.ensures
    c.clip-name.ensures
    c.number.ensures
    c.number-2.ensures
    c.compare.ensures
