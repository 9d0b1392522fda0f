use Rattle.settlement.specs.Settlement.{terms_of, debit_of, debited}
use Rattle.terms.proofs.terms.blank_terms.Goals as goal

pub returns : goal.returns
unfolding terms_of debit_of debited
returns c = rw c.no_totals.ensures
