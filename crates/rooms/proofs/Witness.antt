-- A document, so that what is supposed of one holds of some: `<a/>`, whose one record takes no byte more than it must.
use mathlib.Core.Path.{◌≡◌, refl}
use mathlib.Core.Bool.{true}
use mathlib.Core.List.{List, [], ◌∷◌}
use Prim.Native.Nat.{ℕ, ◌*◌}
use native.Mathlib.Omega.{arith}
use lib.ListN.{length}
use Rattle.text.specs.Range.{within}
use Rattle.text.specs.Utf8.{encode, bytes}
use Rattle.characters.specs.WhiteSpace.{in_ranges}
use Rattle.characters.specs.Characters.{char_of, front, chars, all_good, utf8, encode_all}
use Rattle.markup.specs.Classes.{name_start, name_char}
use Rattle.markup.specs.Points.{points_of, points, lines, logical}
use Rattle.grammar.specs.Names.{all, colons, last, is_name, local_name}
use Rattle.grammar.specs.Tree.{Piece, empty, kid}
use Rattle.grammar.specs.Tokens.{no_attributes, no_misc}
use Rattle.grammar.specs.Grammar.{empty_element, unmarked, bare, Subset, document}
use Rattle.grammar.specs.Layout.{kept, shown, count, attr_room, room, rows}
use Rattle.rooms.specs.Named.{Named}
use Rattle.rooms.specs.Holds.{Holds}
use Rattle.names.specs.Put.{put}
use Rattle.rooms.proofs.Names.{named}
use Rattle.rooms.proofs.Held.{rows_hold}

text : List ℕ
text = bytes "<a/>"

root : Piece
root = kid (0x61 ∷ []) [] empty

small : (utf8 text ≡ true) × Subset (logical text) root
unfolding text root bytes encode within in_ranges char_of front chars all_good utf8 name_start name_char points_of points lines logical all colons last is_name
small = (refl, document (bare unmarked) no_misc (empty_element (0x61 ∷ []) [] refl no_attributes refl) no_misc)

small_named : Named (shown root.kids)
small_named = named small.1

small_takes : (4 * count (shown root.kids) ≡ length text) × (room (shown root.kids) ≡ 1)
unfolding text root bytes encode encode_all colons local_name kept shown count attr_room room
small_takes = (refl, refl)

-- and a table of six numbers has room for it
small_held : Holds (put (0 ∷ 0 ∷ 0 ∷ 0 ∷ 0 ∷ 0 ∷ []) 0 (rows 0 0 0 (shown root.kids))) 0 (shown root.kids)
unfolding text bytes encode
small_held = let h = small_takes.0 in rows_hold (0 ∷ 0 ∷ 0 ∷ 0 ∷ 0 ∷ 0 ∷ []) (shown root.kids) (omega arith)
