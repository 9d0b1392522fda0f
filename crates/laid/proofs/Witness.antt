-- The theorems speak of something: an XML text of document 01's example is accepted, its table is refused by none, and its reading shows the example's.
use mathlib.Core.Path.{◌≡◌, refl, ap, ◌∙◌}
use mathlib.Core.List.{List, [], ◌∷◌, map}
use mathlib.Core.Option.{none}
use Prim.Native.Nat.{ℕ}
use native.Mathlib.Omega.{arith}
use Rattle.text.specs.Range.{within}
use Rattle.text.specs.Order.{equal}
use Rattle.text.specs.Utf8.{encode, bytes}
use Rattle.characters.specs.Characters.{is_scalar, tail, scalar, two, three, four, char_of, front, chars, encode_all}
use Rattle.characters.specs.WhiteSpace.{in_ranges}
use Rattle.markup.specs.Points.{points_of, points, lines, logical}
use Rattle.markup.specs.Classes.{is_char, is_space, name_start, name_char}
use Rattle.refusals.specs.Refusals.{refusal}
use Rattle.grammar.specs.Names.{all, spaces, colons, last, is_name, behind_colon, local_name, recorded, closers_after}
use Rattle.grammar.specs.Tree.{Piece, then}
use Rattle.grammar.specs.Tokens.{is_digit, is_hex, digit_of, is_quote, value_char, flat, free, is_data, is_version, is_latin, encoding_char, is_encoding, is_yes_no}
use Rattle.grammar.specs.Grammar.{Subset}
use Rattle.grammar.specs.Layout.{Forest, kept, shown, count, attr_room, room, rows, texts}
use Rattle.grammar.specs.Places.{accepted}
use Rattle.grammar.specs.Machine.{clause_of, step, finish, run, verdict}
use Rattle.settlement.specs.Shapes.{Reading}
use Rattle.settlement.specs.Settlement.{reading}
use Rattle.settlement.specs.TableDoc.{table_doc}
use Rattle.settlement.specs.Outcome as Outcome
use Rattle.settlement.specs.Edges.{lent}
use Rattle.settlement.specs.Examples.{account_and_foo}
use Rattle.settlement.specs.Tree as Tree
use Rattle.laid.specs.Trees.{attr_of, trees_of, root_name}
use Rattle.laid.specs.Examples.{example_xml, example, piece_of}
use Rattle.laid.proofs.Fragments.{subset_of, text_reading, text_taken}

abbrev piece : Piece
piece = piece_of (verdict (logical example_xml))

-- it is accepted, and laid out as written there
xml_accepted : (verdict (logical example_xml) ≡ accepted piece) × (shown piece.kids ≡ example)
unfolding example_xml example bytes encode points points_of chars front char_of two three four scalar is_scalar tail within lines logical verdict run step finish clause_of in_ranges is_char is_space name_start name_char all spaces colons last is_name behind_colon local_name recorded closers_after equal is_digit is_hex digit_of is_quote value_char flat free is_data is_version is_latin encoding_char is_encoding is_yes_no then kept shown encode_all
xml_accepted = (refl, refl)

pub xml_subset : Subset (logical example_xml) piece
xml_subset = subset_of (logical example_xml) piece xml_accepted.0

sizes : (count example ≡ 6) × (room example ≡ 135) × (root_name example ≡ bytes "ApplicableHeaderTradeSettlement")
unfolding example count room attr_room bytes encode
sizes = (refl, refl, refl)

example_trees : trees_of example ≡ account_and_foo ∷ []
unfolding example trees_of attr_of bytes encode
example_trees = refl

abbrev laid : Forest
laid = shown piece.kids

-- the reader takes it
pub xml_taken : refusal (rows 0 0 0 laid) (texts laid) ≡ none
xml_taken =
    let e = xml_accepted.1 in
    let c : count laid ≡ 6 = ap count e ∙ sizes.0 in
    let r : room laid ≡ 135 = ap room e ∙ sizes.1 in
    text_taken xml_subset (omega (arith, c)) (omega (arith, r)) (ap root_name e ∙ sizes.2)

-- and reads the example's tree
pub xml_reading : Outcome.shown (texts laid) (reading lent (table_doc (rows 0 0 0 laid) (texts laid)) 0) ≡ reading lent Tree.tree_doc account_and_foo
xml_reading = head (text_reading xml_subset lent ∙ ap (map (reading lent Tree.tree_doc)) (ap trees_of xml_accepted.1 ∙ example_trees))
  where
    head : {a b : Reading (List ℕ)} → a ∷ [] ≡ b ∷ [] → a ≡ b
    head e = cc
