use borrow.Author.Rules.{rules}
use Rattle.rulzhamm.proofs.Rows.{answer_placed}
use Rattle.rulzhamm.proofs.terms_row.put_answer.Goals as goal

pub returns-in-Ok : goal.returns-in-Ok
returns-in-Ok c = rw c.in-Ok.is (answer_placed _ (search rules) (rw c.reading_counts.ensures at c.put_row-at.ensures) c.put_terms.ensures)

pub returns-in-Err : goal.returns-in-Err
returns-in-Err c = rw c.in-Err.is (answer_placed _ (search rules) (rw c.refusal_counts.ensures at c.put_row-at-in-Err.ensures) (rw c.blank_terms.ensures at c.put_terms-in-Err.ensures))
