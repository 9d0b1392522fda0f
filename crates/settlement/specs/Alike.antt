-- Readings that differ in order alone (document 01, "Rows": what an exchange of two children may change).
use Rattle.std.specs.Prelude.{◌≡◌, Bool, cond, ℕ, eqb}
use mathlib.Core.List.{List, [], ◌∷◌, Perm}
use Rattle.report.specs.Rows.{Held, transfer, vat, allowance, charge, preceding}
use Rattle.settlement.specs.Shapes.{Reading}

-- the kind of a held row
abbrev pub row_kind : {X : Type 0} → Held X → ℕ
row_kind (transfer t) = 1
row_kind (vat v) = 2
row_kind (allowance a) = 3
row_kind (charge a) = 4
row_kind (preceding p) = 5

-- the elements that pass a test
unfoldable pub keep : {A : Type 0} → (A → Bool) → List A → List A
keep t [] = []
keep t (a ∷ l) = cond (t a) (a ∷ keep t l) (keep t l)

-- the rows of one kind
unfoldable pub of_kind : {X : Type 0} → ℕ → List (Held X) → List (Held X)
of_kind j l = keep (λ r. eqb (row_kind r) j) l

-- the same terms, rows of each kind and unmapped names, and the same entries up to order
pub record Alike {X : Type 0} (r q : Reading X) : Type 0 where
  pub terms : r.terms ≡ q.terms
  pub held : (j : ℕ) → of_kind j r.held ≡ of_kind j q.held
  pub unmapped : r.unmapped ≡ q.unmapped
  pub entries : Perm r.entries q.entries
