-- The tree that a table describes, of bytes alone (document 01, "Rows": two tables that describe the same settlement).
use Rattle.std.specs.Prelude.{List, [], ◌∷◌, map, ℕ, zero, suc, take, drop}
use Rattle.std.proofs.Math.Option
use Rattle.std.proofs.Math.Option.{Option}
use Rattle.table.specs.Table.{records}
use Rattle.settlement.specs.Document.{Doc}
use Rattle.settlement.specs.TableDoc.{shows, table_doc}

-- an element with all below it: name, text, attributes by name, children in order
mutual
  pub data Tree : Type 0 where
    node : List ℕ → Option (List ℕ) → (List ℕ → Option (List ℕ)) → Forest → Tree

  pub data Forest : Type 0 where
    nothing : Forest
    then : Tree → Forest → Forest

-- an element's name
abbrev pub tree_name : Tree → List ℕ
tree_name (node n x a f) = n

-- its text
abbrev pub tree_text : Tree → Option (List ℕ)
tree_text (node n x a f) = x

-- its attributes
abbrev pub tree_attr : Tree → List ℕ → Option (List ℕ)
tree_attr (node n x a f) = a

-- the trees of a forest, in order
abbrev pub trees : Forest → List Tree
trees nothing = []
trees (then t f) = t ∷ trees f

-- and the forest of trees
abbrev pub forest : List Tree → Forest
forest [] = nothing
forest (t ∷ l) = then t (forest l)

-- an element's children
abbrev pub tree_kids : Tree → List Tree
tree_kids (node n x a f) = trees f

-- trees as a document, whose texts stand for themselves
unfoldable pub tree_doc : Doc Tree (List ℕ)
tree_doc = record { name = tree_name; text = tree_text; attr = tree_attr; kids = tree_kids; bytes = λ b. b; cut = λ b i n. take n (drop i b); empty = [] }

module _ (t x : List ℕ) where
  -- record i, with what is below it
  unfoldable pub element : ℕ → Forest → Tree
  element i f = node (shows x ((table_doc t x).name i)) (Option.map (shows x) ((table_doc t x).text i)) (λ w. Option.map (shows x) ((table_doc t x).attr i w)) f

  -- the tree of record i, to a depth
  unfoldable pub tree : ℕ → ℕ → Tree
  tree zero i = element i nothing
  tree (suc d) i = element i (forest (map (tree d) ((table_doc t x).kids i)))

  -- no tree is deeper than there are records
  unfoldable pub tree_of : ℕ → Tree
  tree_of i = tree (suc (records t)) i
