-- The leaves by their names.
use Rattle.std.specs.Prelude.{List, [], ◌∷◌, Option, Some}
use Prim.Native.String.{String}
use Rattle.edges.specs.declared.leaves.Leaf.TheVariants.{Utf8, Trim, Digit, Same, Compare, Part, Amount, Percentage, Date, Currency, Vat, Conformant, Format, Point, Boolean, Rule}
use Rattle.edges.specs.declared.leaves.Leaf.{Leaf}

-- the leaves of texts, numbers and dates, and those of codes
unfoldable pub leaves : List (String × Option Leaf)
leaves =
    ("utf8", Some Utf8) ∷ ("trim", Some Trim) ∷ ("digit", Some Digit) ∷ ("same", Some Same) ∷ ("compare", Some Compare) ∷ ("part", Some Part) ∷
    ("amount", Some Amount) ∷ ("percentage", Some Percentage) ∷ ("date", Some Date) ∷
    ("currency", Some Currency) ∷ ("vat", Some Vat) ∷ ("conformant", Some Conformant) ∷ ("format", Some Format) ∷ ("point", Some Point) ∷
    ("boolean", Some Boolean) ∷ ("rule", Some Rule) ∷ []
