-- The rows of unmapped elements as the code reads them back from any list of numbers, and how an element stands to one.
use Rattle.std.specs.Prelude.{List, ◌∷◌, ℤ, pos, negsuc, get_or}
use Prim.Native.Nat.{ℕ, ◌+◌, ◌*◌, Ordering}
use Rattle.text.specs.Order.{order}
use Rattle.text.specs.Span.{clipped}
use Rattle.names.specs.Parent.{parent_number}
use Rattle.report.specs.Rows.{Place, Unmapped}
use Rattle.report.specs.Encoding.{unmapped_width}
use Rattle.settlement.specs.TableDoc.{shows}

-- a signed number as a place or a length: 0 where it is negative
abbrev pub or_zero : ℤ → ℕ
or_zero (pos n) = n
or_zero (negsuc n) = 0

-- number j of row k
unfoldable pub number : List ℤ → ℕ → ℕ → ℕ
number l k j = or_zero (get_or l (k * unmapped_width + j) (pos 0))

-- the parent's number of row k, then the bytes of its name
unfoldable pub row_key : List ℕ → List ℤ → ℕ → List ℕ
row_key x l k = number l k 0 ∷ clipped x (number l k 1) (number l k 2)

-- the same of an element
unfoldable pub element_key : List ℕ → Unmapped Place → List ℕ
element_key x u = parent_number u.parent ∷ shows x u.name

-- how an element stands to row k
unfoldable pub standing : List ℕ → List ℤ → Unmapped Place → ℕ → Ordering
standing x l u k = order (element_key x u) (row_key x l k)

-- how one element stands to another: by parent, then by name (document 01, "Rows": Unmapped)
unfoldable pub element_order : List ℕ → Unmapped Place → Unmapped Place → Ordering
element_order x u v = order (element_key x u) (element_key x v)
