-- How many rows of each group there may be so far.
use Rattle.std.specs.Prelude.{ℕ, ◌≤◌}
use Rattle.steps.specs.declared.state.Tally.{Tally}

-- at most n VAT breakdowns, allowances, charges and preceding invoices
pub record Counted (t : Tally) (n : ℕ) : Type 0 where
  pub breakdowns : t.vat.breakdowns ≤ n
  pub allowances : t.allowances ≤ n
  pub charges : t.charges ≤ n
  pub invoices : t.invoices ≤ n
