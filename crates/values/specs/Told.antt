-- What a function of the reader did, against the definition of what it reads.
use Rattle.std.specs.Prelude.{◌≡◌, List}
use Rattle.report.specs.Rows.{Place, Entry}
use Rattle.report.specs.Encoding.{entry_row, rows_of}
use Rattle.report.specs.Placed.{Placed}
use Rattle.settlement.specs.Values.{Says}
use Rattle.values.specs.declared.saying.Entries.{Entries}

-- the entries are the same lent list, into which these were put at the place of the next
pub record Said (es : List (Entry Place)) (before after : Entries) : Type 0 where
  pub same : after.list.ghost_name ≡ before.list.ghost_name
  pub rows : Placed before.list.now before.at (rows_of entry_row es) after.list.now after.at

-- the value is the one that is defined, and the entries that go with it were put
pub record Told {A : Type 0} (s : Says Place A) (before : Entries) (value : A) (after : Entries) : Type 0 where
  pub same : value ≡ s.0
  pub said : Said s.1 before after
