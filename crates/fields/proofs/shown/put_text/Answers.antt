use Rattle.fields.proofs.Showing.{text_nowhere, text_absent, text_there}
use Rattle.fields.proofs.shown.put_text.Goals as goal
use Rattle.fields.proofs.shown.put_text.Goals.{then-start-lt0-via-then-start-lt0, then-start-lt0-via-else-start-lt0+then-length-lt0}

pub returns-then-start-lt0 : goal.returns-then-start-lt0
returns-then-start-lt0 c =
    elim c.then-start-lt0.branch [
      | then-start-lt0-via-then-start-lt0 w ↦ search text_nowhere
      | then-start-lt0-via-else-start-lt0+then-length-lt0 w ↦ search text_absent
    ]

pub returns : goal.returns
returns c = search text_there
