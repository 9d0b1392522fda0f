-- What the code's terms mean.
use Rattle.text.specs.Options.{option_of}
use Rattle.report.specs.Rows.{Place}
use Rattle.report.specs.Values.{text_of}
use Rattle.settlement.specs.Shapes.{Terms}
use Rattle.payment.specs.Walks.{means_of}
use Rattle.totals.specs.Reading.{totals_of}
use Rattle.steps.specs.States.{maybe_payee_of, maybe_period_of}
use Rattle.terms.specs.declared.terms.Terms as Code

-- the terms
abbrev pub terms_of : Code.Terms → Terms Place
terms_of t =
    record {
      bt5 = text_of t.bt5;
      bt6 = text_of t.bt6;
      bt7 = option_of t.bt7;
      bt8 = option_of t.bt8;
      bt9 = option_of t.bt9;
      bt19 = text_of t.bt19;
      bt20 = text_of t.bt20;
      payee = maybe_payee_of t.payee;
      period = maybe_period_of t.period;
      paid = t.paid;
      bt81 = text_of t.bt81;
      bt82 = text_of t.bt82;
      bt83 = text_of t.bt83;
      means = means_of t.means;
      bt89 = text_of t.bt89;
      bt90 = text_of t.bt90;
      totals = totals_of t.totals;
    }
