-- Documents whose names, texts and values are characters.
use Rattle.std.specs.Prelude.{◌≡◌, true, List, [], ◌∷◌}
use Rattle.characters.specs.Characters.{all_scalar, utf8}
use Rattle.grammar.specs.Layout as Layout
use Rattle.grammar.specs.Tree as Tree

-- as it is laid out: every name, text and value is UTF-8 (document 01, refusal 8)
abbrev pub ReadableAttrs : List Layout.Attr → Type 0
ReadableAttrs [] = Unit {0}
ReadableAttrs (a ∷ zs) = (utf8 a.name ≡ true) × (utf8 a.value ≡ true) × ReadableAttrs zs

abbrev pub Readable : Layout.Forest → Type 0
Readable Layout.empty = Unit {0}
Readable (Layout.tree n t zs ks g) = (utf8 n ≡ true) × (utf8 t ≡ true) × ReadableAttrs zs × Readable ks × Readable g

-- as it is read: every character of them is a character number (Unicode, D76)
abbrev pub ScalarAttrs : List Tree.Attr → Type 0
ScalarAttrs [] = Unit {0}
ScalarAttrs (a ∷ zs) = (all_scalar a.name ≡ true) × (all_scalar a.value ≡ true) × ScalarAttrs zs

abbrev pub Scalar : Tree.Forest → Type 0
Scalar Tree.none = Unit {0}
Scalar (Tree.tree n zs t ks g) = (all_scalar n ≡ true) × ScalarAttrs zs × (all_scalar t ≡ true) × Scalar ks × Scalar g
