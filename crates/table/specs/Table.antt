-- The table: records of six numbers, no header, and the tree that they describe (document 01, "From the tree to the table").
use Rattle.std.specs.Prelude.{Bool, cond, ◌&&◌, List, [], ◌∷◌, ◌++◌, ℕ, zero, suc, ◌+◌, ◌*◌, ◌/◌, ltb, eqb, length, get_or}
use Rattle.std.proofs.Math.Option.{Option, none, some}
use Rattle.text.specs.Span.{clipped}
use Rattle.text.specs.Order.{equal}

-- the number of whole records
abbrev pub records : List ℕ → ℕ
records t = length t / 6

-- number k of record r: 0 kind, 1 parent, 2 name start, 3 name length, 4 text start, 5 text length
abbrev pub cell : List ℕ → ℕ → ℕ → ℕ
cell t r k = get_or t (r * 6 + k) 0

-- a record's name
unfoldable pub name_of : List ℕ → List ℕ → ℕ → List ℕ
name_of t x r = clipped x (cell t r 2) (cell t r 3)

-- its text: an element's direct text joined, or an attribute's value; length 0 is no text
unfoldable pub text_of : List ℕ → List ℕ → ℕ → List ℕ
text_of t x r = clipped x (cell t r 4) (cell t r 5)

-- a record has this name
unfoldable pub named : List ℕ → List ℕ → List ℕ → ℕ → Bool
named t x w r = equal (name_of t x r) w

-- record j is of kind k and names the earlier record i as its parent
unfoldable pub kin : List ℕ → ℕ → ℕ → ℕ → Bool
kin t k i j = eqb (cell t j 0) k && (eqb (cell t j 1) i && ltb i j)

-- those of kind k under i among the records below j, in table order
unfoldable pub below : List ℕ → ℕ → ℕ → ℕ → List ℕ
below t k i zero = []
below t k i (suc j) = below t k i j ++ cond (kin t k i j) (j ∷ []) []

-- an element's children: the element records that name it as their parent, in table order
unfoldable pub kids : List ℕ → ℕ → List ℕ
kids t i = below t 1 i (records t)

-- an element's attributes
unfoldable pub attrs : List ℕ → ℕ → List ℕ
attrs t i = below t 2 i (records t)

-- the first of m records from j on that passes a test
unfoldable pub first_from : (ℕ → Bool) → ℕ → ℕ → Option ℕ
first_from p j zero = none
first_from p j (suc m) = cond (p j) (some j) (first_from p (suc j) m)

-- the first record of a list that passes a test
unfoldable pub first_of : (ℕ → Bool) → List ℕ → Option ℕ
first_of p [] = none
first_of p (c ∷ l) = cond (p c) (some c) (first_of p l)

-- the first of a name among those of kind k under i: of two equal attribute names the earlier counts
unfoldable pub first_named : List ℕ → List ℕ → ℕ → ℕ → List ℕ → Option ℕ
first_named t x k i w = first_of (named t x w) (below t k i (records t))

-- the first child of a name
unfoldable pub first_child : List ℕ → List ℕ → ℕ → List ℕ → Option ℕ
first_child t x i w = first_named t x 1 i w

-- the attribute of a name
unfoldable pub attribute : List ℕ → List ℕ → ℕ → List ℕ → Option ℕ
attribute t x i w = first_named t x 2 i w

-- a record's number stands for it, and 0, which is under no record, for none
abbrev pub found : ℕ → Option ℕ
found zero = none
found (suc n) = some (suc n)

-- the test of one record for `first_named`
unfoldable pub kin_named : List ℕ → List ℕ → ℕ → ℕ → List ℕ → ℕ → Bool
kin_named t x k i w j = kin t k i j && named t x w j
