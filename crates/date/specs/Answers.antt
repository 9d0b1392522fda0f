-- What an answer of the code says, in document 01's numbers.
use Rattle.std.specs.Prelude.{ℕ, Result, Ok, Err}
use Rattle.text.specs.Answer.{Answer, read, says}
use Rattle.date.specs.declared.DateError.{DateError}
use Rattle.date.specs.declared.DateError.TheVariants.{Malformed, NotACalendarDay}

-- messages 12, not CCYYMMDD, and 13, no such day
abbrev pub date_answer : Result ℕ DateError → Answer ℕ
date_answer (Ok n) = read n
date_answer (Err Malformed) = says 12
date_answer (Err NotACalendarDay) = says 13
