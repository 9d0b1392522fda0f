-- What the examples of rows are made of: elements around others, and one with nothing in it.
use Rattle.std.specs.Prelude.{[], ◌∷◌}
use Rattle.text.specs.Utf8.{bytes}
use Rattle.grammar.specs.Layout.{Forest, empty, tree}

-- `<r a='12'>t..</r>` around elements, and `<k/>`
unfoldable pub around : Forest → Forest
around f = tree (bytes "r") (bytes "t") (record { name = bytes "a"; value = bytes "12" } ∷ []) f empty

unfoldable pub kid : Forest
kid = tree (bytes "k") [] [] empty empty
