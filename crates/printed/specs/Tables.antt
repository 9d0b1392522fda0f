-- The groups and terms of the code.
use Rattle.fields.specs.Columns.{column_of}
use Rattle.printed.specs.declared.group.Group.{Group}
use Rattle.printed.specs.declared.term.Term.{Term}
use Rattle.printed.specs.Numbers.{GroupAt, TermAt, group, term}

-- a group
abbrev pub group_of : Group → GroupAt
group_of g = group g.0 g.1

-- a term
abbrev pub term_of : Term → TermAt
term_of t = term t.0 (column_of t.1) t.2
