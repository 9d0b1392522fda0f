use Rattle.view.proofs.Places.{no_start, no_length, there}
use Rattle.view.proofs.place.shown.Goals as goal
use Rattle.view.proofs.place.shown.Goals.{then-start-lt0-via-then-start-lt0, then-start-lt0-via-else-start-lt0+then-length-lt0}

pub returns-then-start-lt0 : goal.returns-then-start-lt0
returns-then-start-lt0 c =
    elim c.then-start-lt0.branch [
      | then-start-lt0-via-then-start-lt0 w ↦ (no_start _ _ _ c.ranges.start w.if-start-lt0.true).1
      | then-start-lt0-via-else-start-lt0+then-length-lt0 w ↦ (no_length _ _ _ c.ranges.start c.ranges.length w.if-start-lt0.false w.if-length-lt0.true).1
    ]

pub returns : goal.returns
returns c = search there
