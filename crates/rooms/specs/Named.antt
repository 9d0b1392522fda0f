-- Every name takes a byte at least: [5] Name is not empty, nor is what stands behind its colon (request R-3).
use Rattle.std.specs.Prelude.{◌<◌, List, [], ◌∷◌, length}
use Rattle.grammar.specs.Layout.{Attr, Forest, empty, tree}

unfoldable pub NamedAttrs : List Attr → Type 0
NamedAttrs [] = Unit {0}
NamedAttrs (a ∷ zs) = (0 < length a.name) × NamedAttrs zs

-- of elements and their recorded attributes
unfoldable pub Named : Forest → Type 0
Named empty = Unit {0}
Named (tree n t zs ks g) = (0 < length n) × NamedAttrs zs × Named ks × Named g
