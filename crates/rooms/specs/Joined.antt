-- Elements as they are laid out, side by side.
use Rattle.grammar.specs.Layout.{Forest, empty, tree}

-- elements, and further ones behind them (`shown_then`, proofs/Joins.antt: as a document's elements are joined)
unfoldable pub then_l : Forest → Forest → Forest
then_l empty h = h
then_l (tree n t zs ks g) h = tree n t zs ks (then_l g h)
