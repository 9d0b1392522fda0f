-- What a document laid out by request R-3 is in document 01's words: its tree, and whether it is too large for the reader.
use Rattle.std.specs.Prelude.{Bool, cond, ◌||◌, List, [], ◌∷◌, ℕ, ltb}
use Rattle.std.proofs.Math.Option.{Option, none, some}
use Rattle.text.specs.Order.{equal}
use Rattle.grammar.specs.Layout.{Attr, Forest, empty, tree, count, room}
use Rattle.settlement.specs.Tree as Tree

-- an element's text; an empty one is none (document 01, "From the tree to the table")
abbrev pub content : List ℕ → Option (List ℕ)
content [] = none
content (b ∷ s) = some (b ∷ s)

-- the attribute of a name: of two equal names the earlier counts
unfoldable pub attr_of : List Attr → List ℕ → Option (List ℕ)
attr_of [] w = none
attr_of (a ∷ zs) w = cond (equal a.name w) (some a.value) (attr_of zs w)

-- the trees of elements side by side
unfoldable pub trees_of : Forest → List Tree.Tree
trees_of empty = []
trees_of (tree n t zs ks g) = Tree.node n (content t) (attr_of zs) (Tree.forest (trees_of ks)) ∷ trees_of g

-- one element, with all below it
pub data OneRoot : Forest → Type 0 where
  root : (n t : List ℕ) (zs : List Attr) (ks : Forest) → OneRoot (tree n t zs ks empty)

-- the name of the first element
abbrev pub root_name : Forest → List ℕ
root_name empty = []
root_name (tree n t zs ks g) = n

-- over 4,096 records or over 1,048,576 text bytes (document 01, refusal 4)
unfoldable pub over_limit : Forest → Bool
over_limit f = ltb 4096 (count f) || ltb 1048576 (room f)
