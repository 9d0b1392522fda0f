-- Examples, computed: rows without starts and filled in, the last record's text, numbers of 32 bits.
use Rattle.std.specs.Prelude.{◌≡◌, refl, true, false, [], ◌∷◌}
use Rattle.text.specs.Utf8.{encode, bytes}
use Rattle.grammar.specs.Layout.{empty, count}
use Rattle.rooms.specs.Joined.{then_l}
use Rattle.rooms.specs.Cells.{narrow, last_attr, last_of}
use Rattle.rooms.specs.Blank.{blank_attrs, blank, filled}
use Rattle.rooms.specs.Examples.{around, kid}

blanks : blank 0 0 (around kid) ≡ 1 ∷ 0 ∷ 0 ∷ 1 ∷ 0 ∷ 1 ∷ 2 ∷ 0 ∷ 0 ∷ 1 ∷ 0 ∷ 2 ∷ 1 ∷ 0 ∷ 0 ∷ 1 ∷ 0 ∷ 0 ∷ []
unfolding around kid bytes encode count blank_attrs blank
blanks = refl

starts : filled 0 (blank 0 0 (around kid)) ≡ 1 ∷ 0 ∷ 0 ∷ 1 ∷ 1 ∷ 1 ∷ 2 ∷ 0 ∷ 2 ∷ 1 ∷ 3 ∷ 2 ∷ 1 ∷ 0 ∷ 5 ∷ 1 ∷ 6 ∷ 0 ∷ []
unfolding around kid bytes encode count blank_attrs blank filled
starts = refl

-- of an element, an attribute, no record; of elements side by side
lasts : last_of 9 (around kid) ∷ last_of 9 (around empty) ∷ last_of 9 empty ∷ last_of 9 (then_l kid (around empty)) ∷ [] ≡ 0 ∷ 2 ∷ 9 ∷ 2 ∷ []
unfolding around kid bytes encode then_l last_attr last_of
lasts = refl

widths : narrow (1 ∷ 4294967295 ∷ []) ∷ narrow (4294967296 ∷ 1 ∷ []) ∷ [] ≡ true ∷ false ∷ []
unfolding narrow
widths = refl
