-- The end of a reading in the code's terms.
use Rattle.std.specs.Prelude.{◌≡◌, Bool, cond, not, ◌||◌, List, ◌++◌, ℕ}
use Rattle.std.proofs.Math.Option.{Option, none, some}
use Rattle.codes.specs.declared.rules.Rule.TheVariants as Rule
use Rattle.names.specs.declared.path.Path.TheVariants as Path
use Rattle.names.specs.declared.term.Term.TheVariants as Term
use Rattle.report.specs.Rows.{Place, Entry}
use Rattle.report.specs.Values.{text_of}
use Rattle.settlement.specs.Shapes.{Means, unset, debit, Terms}
use Rattle.settlement.specs.Settlement.{Debit}
use Rattle.settlement.specs.Summation.{is_none}
use Rattle.settlement.specs.Values.{site, missing}
use Rattle.values.specs.Told.{Said}
use Rattle.values.specs.declared.saying.Entries.{Entries}
use Rattle.payment.specs.Walks.{means_of}
use Rattle.terms.specs.Terms.{terms_of}
use Rattle.terms.specs.declared.debit.Debit as CodeDebit
use Rattle.terms.specs.declared.terms.Terms as CodeTerms

-- no summation: four absences
unfoldable pub missing_totals : ℕ → List (Entry Place)
missing_totals rules =
    missing rules Rule.Br12 (site Path.SettlementSummation (some Term.Bt106)) ++
    (missing rules Rule.Br13 (site Path.SettlementSummation (some Term.Bt109)) ++
    (missing rules Rule.Br14 (site Path.SettlementSummation (some Term.Bt112)) ++ missing rules Rule.Br15 (site Path.SettlementSummation (some Term.Bt115))))

-- the means that a mandate or a creditor identifier makes where none are held
abbrev pub fresh_means : Option Place → Option Place → Means Place
fresh_means a c = cond (is_none a) (cond (is_none c) unset (debit none)) (debit none)

-- whether there is BG-16
abbrev pub is_paid : Bool → Option (Option Place) → Option Place → Option Place → Bool
is_paid met reference mandate creditor = met || (not (is_none reference) || (not (is_none mandate) || not (is_none creditor)))

-- means, mandate and creditor identifier are those, and what is said of them was put
pub record Debited (d : Debit Place) (before : Entries) (r : CodeDebit.Debit) (after : Entries) : Type 0 where
  pub means : means_of r.means ≡ d.means
  pub mandate : text_of r.mandate ≡ d.mandate
  pub creditor : text_of r.creditor ≡ d.creditor
  pub said : Said d.says before after

-- the terms are those, and what is said at the end was put
pub record Ended (t : Terms Place) (es : List (Entry Place)) (before : Entries) (r : CodeTerms.Terms) (after : Entries) : Type 0 where
  pub terms : terms_of r ≡ t
  pub said : Said es before after
