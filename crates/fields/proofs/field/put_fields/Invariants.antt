use mathlib.Core.List.{map}
use lib.ListN.{drop}
use Rattle.fields.specs.Line.{tabbed}
use Rattle.fields.specs.Columns.{column_of, fields}
use Rattle.fields.proofs.Parts.{PutSome}
use Rattle.fields.proofs.field.put_fields.Given as goal

abbrev pub invariant-loop-column : goal.invariant-loop-column
invariant-loop-column l = PutSome (tabbed (fields l.text (map column_of l.columns) l.initial.rest)) l.initial.line l.line (tabbed (fields l.text (map column_of (drop l.column-index l.columns)) l.rest))
