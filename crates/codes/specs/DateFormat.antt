-- The format of a date.
use Rattle.std.specs.Prelude.{Bool, List, ℕ}
use Rattle.text.specs.Order.{equal}
use Rattle.text.specs.Utf8.{bytes}

-- 102, CCYYMMDD, of the code list UN/CEFACT 2379 (document 01, `date.rs`)
unfoldable pub date_format : List ℕ → Bool
date_format s = equal s (bytes "102")
