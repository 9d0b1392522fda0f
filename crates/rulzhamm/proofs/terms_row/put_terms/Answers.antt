use Rattle.rulzhamm.proofs.Rows.{terms_placed}
use Rattle.rulzhamm.proofs.terms_row.put_terms.Goals as goal

pub returns : goal.returns
returns c =
    terms_placed c.args.t (rw c.plain_cells.ensures at c.put_row-at.ensures) c.put_payee-at.ensures (rw c.period_cells.ensures at c.put_row-at-2.ensures) (rw c.payment_cells.ensures at c.put_row-at-3.ensures) (rw c.means_cells.ensures at c.put_row-at-4.ensures) (rw c.text_cells.ensures at c.put_row-at-5.ensures) (rw c.text_cells-2.ensures at c.put_row-at-6.ensures) (rw c.totals_cells.ensures at c.put_row.ensures)
