use Rattle.terms.proofs.Ends.{terms_made}
use Rattle.terms.specs.Endings.{missing_totals}
use Rattle.settlement.specs.Settlement.{terms_of, debit_of, late_of}
use Rattle.values.proofs.Telling.{said_then}
use Rattle.terms.proofs.finishing.finish.Goals as goal

pub returns : goal.returns
unfolding terms_of debit_of late_of missing_totals
returns c =
    let debit = c.debited-debit.ensures in
    record {
      terms = terms_made c.is_paid.ensures c.reference_text.ensures debit.means debit.mandate debit.creditor c.totals_or_none.ensures;
      said = said_then c.say_totals.ensures debit.said;
    }
