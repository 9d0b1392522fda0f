-- The first code and the first text.
use mathlib.Core.Path.{◌≡◌}
use mathlib.Core.Option.{Option, some}
use Rattle.report.specs.Rows.{Place}
use Rattle.report.specs.Values.{place_of, text_of}
use Rattle.report.specs.declared.value.Place as Code
use Rattle.settlement.specs.Document.{or_else}
use Rattle.std.specs.declared.option.Option as Maybe
use Rattle.std.specs.Prelude.{None, Some}

-- none before: this code, which is always there
pub first_code : {t : Maybe.Option Code.Place} {a b : Place} → t ≡ None → a ≡ b → some a ≡ or_else (text_of t) (some b)
first_code e p = rw (e, p)

-- or this text, which may be absent
pub first_text : {t : Maybe.Option Code.Place} {a b : Option Place} → t ≡ None → a ≡ b → a ≡ or_else (text_of t) b
first_text e p = rw (e, p)

-- one before
pub first_kept : {t : Maybe.Option Code.Place} {q : Code.Place} (b : Option Place) → t ≡ Some q → some (place_of q) ≡ or_else (text_of t) b
first_kept b e = rw e
