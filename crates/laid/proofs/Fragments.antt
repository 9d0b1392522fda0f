-- The table of a text of the subset: it has the text's tree, and the reader takes it.
use mathlib.Core.Path.{◌≡◌, subst}
use mathlib.Core.Bool.{not}
use mathlib.Core.List.{[], ◌∷◌, map}
use mathlib.Core.Option.{none}
use Prim.Native.Nat.{ℕ, ◌≤◌}
use Rattle.text.specs.Order.{equal}
use Rattle.text.specs.Utf8.{bytes}
use Rattle.refusals.specs.Refusals.{at_root, refuse, refusal}
use Rattle.grammar.specs.Names.{Text}
use Rattle.grammar.specs.Tree.{Piece}
use Rattle.grammar.specs.Grammar.{an_element, Spells, element, empty_element, Subset, document}
use Rattle.grammar.specs.Places.{Verdict, accepted}
use Rattle.grammar.specs.Machine.{verdict}
use Rattle.grammar.specs.Layout.{Forest, count, room, rows, texts, shown}
use Rattle.grammar.proofs.Whole.{Says, sound}
use Rattle.settlement.specs.Values.{Lent}
use Rattle.settlement.specs.Settlement.{reading}
use Rattle.settlement.specs.TableDoc.{table_doc}
use Rattle.settlement.specs.Outcome as Outcome
use Rattle.settlement.specs.Tree as Tree
use Rattle.laid.specs.Trees.{trees_of, OneRoot, root, root_name, over_limit}
use Rattle.laid.specs.Readable.{Readable}
use Rattle.laid.proofs.Layouts.{layout_tree, reading-of}
use Rattle.laid.proofs.Refusals.{refusal_of, refused_by_none}
use Rattle.laid.proofs.Scalars.{subset_scalar, shown_readable}

-- what is accepted is of the subset
pub subset_of : (s : Text) (p : Piece) → verdict s ≡ accepted p → Subset s p
unfolding Says
subset_of s p e = subst (λ (v : Verdict). Says v s) e (sound s)

element_root : {d : ℕ} {y : Text} {p : Piece} → Spells an_element d y p → OneRoot (shown p.kids)
unfolding shown
element_root (element n l r e k el c er) = root _ _ _ _
element_root (empty_element n l e k el) = root _ _ _ _

module _ {s : Text} {p : Piece} (k : Subset s p) where
  abbrev f : Forest
  f = shown p.kids

  pub one_root : OneRoot f
  one_root = by k
    where
      by : {s : Text} {p : Piece} → Subset s p → OneRoot (shown p.kids)
      by (document l x e z) = element_root e

  -- all that is laid out is UTF-8
  pub text_readable : Readable f
  text_readable = shown_readable p.kids (subset_scalar k)

  -- record 0 has the text's tree
  pub text_tree : Tree.tree_of (rows 0 0 0 f) (texts f) 0 ∷ [] ≡ trees_of f
  text_tree = layout_tree f one_root

  -- what the reader's reading of the table shows is the reading of that tree
  pub text_reading : (L : Lent) → Outcome.shown (texts f) (reading L (table_doc (rows 0 0 0 f) (texts f)) 0) ∷ [] ≡ map (reading L Tree.tree_doc) (trees_of f)
  text_reading L = reading-of L f one_root

  -- the reader refuses it over the limits (4) or for the root's name (9), and for nothing else
  pub text_refusal : refusal (rows 0 0 0 f) (texts f) ≡ refuse 4 (at_root (over_limit f)) (refuse 9 (at_root (not (equal (root_name f) (bytes "ApplicableHeaderTradeSettlement")))) none)
  text_refusal = refusal_of f one_root text_readable

  -- a settlement within the limits is read
  pub text_taken : count f ≤ 4096 → room f ≤ 1048576 → root_name f ≡ bytes "ApplicableHeaderTradeSettlement" → refusal (rows 0 0 0 f) (texts f) ≡ none
  text_taken = refused_by_none f one_root text_readable
