use Rattle.inputs.proofs.Fitness.{records_long, numbers_broken, text_long, line_decides}
use Rattle.inputs.proofs.files.input_of.Goals as goal
use Rattle.inputs.proofs.files.input_of.Goals.{then-records-gt-RECORDS-via-then-records-gt-RECORDS, then-records-gt-RECORDS-via-else-records-gt-RECORDS+then-records-ne0, then-records-gt-RECORDS-via-else-records-gt-RECORDS+else-records-ne0+then-text-gt-TEXT}

pub returns-then-records-gt-RECORDS : goal.returns-then-records-gt-RECORDS
returns-then-records-gt-RECORDS c =
    elim c.then-records-gt-RECORDS.branch [
      | then-records-gt-RECORDS-via-then-records-gt-RECORDS w ↦ search records_long
      | then-records-gt-RECORDS-via-else-records-gt-RECORDS+then-records-ne0 w ↦ search numbers_broken
      | then-records-gt-RECORDS-via-else-records-gt-RECORDS+else-records-ne0+then-text-gt-TEXT w ↦ search text_long
    ]

pub returns : goal.returns
returns c = search line_decides
