-- The places of a record's fields (document 01, "From the tree to the table").
use Rattle.std.specs.Prelude.{ℕ}
use Rattle.table.specs.declared.record.Field.{Field}
use Rattle.table.specs.declared.record.Field.TheVariants.{Kind, Parent, NameStart, NameLength, TextStart, TextLength}

-- kind (1 element, 2 attribute), parent's record, name start, name length, text start, text length
abbrev pub place : Field → ℕ
place Kind = 0
place Parent = 1
place NameStart = 2
place NameLength = 3
place TextStart = 4
place TextLength = 5
