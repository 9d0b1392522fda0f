-- Laws of a row's fields.
use mathlib.Core.Path.{◌≡◌}
use mathlib.Core.List.{List, ◌∷◌, map}
use Prim.Native.Nat.{ℕ, ◌+◌, ◌≤◌, ◌<◌}
use native.Mathlib.Numerals.{add-one}
use lib.IntN.{ℤ}
use lib.ListN.{length, get_or, drop, drop_of_length-le}
use lib.Seq.{drop-cons}
use Rattle.report.specs.Columns.{width}
use Rattle.decimals.specs.Puts.{Puts}
use Rattle.decimals.specs.declared.line.Line.{Line}
use Rattle.fields.specs.declared.column.Column as code
use Rattle.fields.specs.Line.{field, tabbed}
use Rattle.fields.specs.Columns.{column_of, shown, fields}
use Rattle.fields.proofs.Parts.{PutSome, some_then, some_all}

-- the loop that puts a row's fields, at its column i and the numbers r that are left
module _ (x : List ℕ) (cs : List code.Column) (i : ℕ) (r : List ℤ) where
  pub fields_turn :
      {all : List ℕ} {l m n : Line} (d : code.Column) {q : List ℤ} → i < length cs → PutSome all l m (tabbed (fields x (map column_of (drop i cs)) r)) →
      Puts (0x9 ∷ field (shown x (column_of (get_or cs i d)) r)) m n → q ≡ drop (width (column_of (get_or cs i d))) r →
      PutSome all l n (tabbed (fields x (map column_of (drop (i + 1) cs)) q))
  unfolding tabbed fields
  fields_turn d h p s t = rw (add-one, t) (some_then (rw (drop-cons cs i d) at p) s)

  pub fields-end : {all : List ℕ} {l m : Line} → length cs ≤ i → PutSome all l m (tabbed (fields x (map column_of (drop i cs)) r)) → Puts all l m
  unfolding tabbed fields
  fields-end h p = some_all (rw (drop_of_length-le cs h) at p)
