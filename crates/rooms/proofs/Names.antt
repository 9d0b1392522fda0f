-- Every name of a document's table takes a byte at least, and so every record.
use mathlib.Core.Path.{◌≡◌, refl}
use mathlib.Core.Bool.{Bool, true, false, cond, not, ◌&&◌}
use mathlib.Core.List.{List, [], ◌∷◌, ◌++◌}
use Prim.Native.Nat.{ℕ, suc, ◌≤◌, ◌<◌}
use native.Mathlib.Omega.{arith}
use lib.Dec.{eqb, leb}
use lib.ListN.{length}
use borrow.Author.Tests.{not-true}
use Rattle.text.proofs.Bools.{both, not_both}
use Rattle.characters.specs.Characters.{encode_all}
use Rattle.markup.specs.Classes.{name_start, name_char}
use Rattle.grammar.specs.Names.{Text, all, is_name, colons, last, behind_colon, local_name, recorded}
use Rattle.grammar.specs.Tree as Tree
use Rattle.grammar.specs.Tree.{Piece}
use Rattle.grammar.specs.Tokens.{Attributes, no_attributes, and_attribute}
use Rattle.grammar.specs.Grammar.{Sort, Spells, element, empty_element, nothing, and_char, and_reference, and_section, and_comment, and_element, Subset, document}
use Rattle.grammar.specs.Layout.{Attr, Forest, empty, tree, kept, shown, count, attr_room, room}
use Rattle.rooms.specs.Joined.{then_l}
use Rattle.rooms.specs.Named.{NamedAttrs, Named}
use Rattle.rooms.proofs.Joins.{shown_then}
use Rattle.rooms.proofs.Weights.{weight, weight_length}
use Rattle.rooms.proofs.Few.{name_some, kept_append}

-- a name does not end in a colon
name_end : (c : ℕ) (s : Text) → is_name (c ∷ s) ≡ true → eqb (last c s) 0x3A ≡ false
unfolding is_name
name_end c s e =
    let a = both (name_start c) (all name_char s && (not (eqb c 0x3A) && (not (eqb (last c s) 0x3A) && leb (colons (c ∷ s)) 1))) e in
    let b = both (all name_char s) (not (eqb c 0x3A) && (not (eqb (last c s) 0x3A) && leb (colons (c ∷ s)) 1)) a.1 in
    let d = both (not (eqb c 0x3A)) (not (eqb (last c s) 0x3A) && leb (colons (c ∷ s)) 1) b.1 in
    not-true (eqb (last c s) 0x3A) (both (not (eqb (last c s) 0x3A)) (leb (colons (c ∷ s)) 1) d.1).0

-- so something stands behind its colon
behind_some : (c : ℕ) (s : Text) → eqb (last c s) 0x3A ≡ false → eqb (colons (c ∷ s)) 0 ≡ false → 0 < length (behind_colon (c ∷ s))
unfolding last colons behind_colon
behind_some c [] e f = go (eqb c 0x3A) e f
  where
    go : (b : Bool) → b ≡ false → eqb (cond b 1 0) 0 ≡ false → 0 < length {A = ℕ} (cond b [] [])
    go true e f = absurd (not_both refl e)
    go false e f = absurd (not_both refl f)
behind_some c (b ∷ s) e f = go (eqb c 0x3A) f (behind_some b s e)
  where
    go : (p : Bool) → eqb (cond p (suc (colons (b ∷ s))) (colons (b ∷ s))) 0 ≡ false → (eqb (colons (b ∷ s)) 0 ≡ false → 0 < length (behind_colon (b ∷ s))) → 0 < length (cond p (b ∷ s) (behind_colon (b ∷ s)))
    go true f r = omega arith
    go false f r = r f

local_some : (n : Text) → is_name n ≡ true → 0 < length (local_name n)
unfolding local_name
local_some [] e = absurd (let h = name_some [] e in omega arith)
local_some (c ∷ s) e = go (eqb (colons (c ∷ s)) 0) refl
  where
    go : (b : Bool) → eqb (colons (c ∷ s)) 0 ≡ b → 0 < length (cond b (c ∷ s) (behind_colon (c ∷ s)))
    go true q = omega arith
    go false q = behind_some c s (name_end c s e) q

-- attributes
attrs_append : (zs ys : List Attr) → NamedAttrs zs → NamedAttrs ys → NamedAttrs (zs ++ ys)
unfolding NamedAttrs
attrs_append [] ys h k = k
attrs_append (a ∷ zs) ys h k = (h.0, attrs_append zs ys h.1 k)

one_named : (a : Tree.Attr) → is_name a.name ≡ true → NamedAttrs (kept (a ∷ []))
unfolding kept NamedAttrs
one_named a e = go (recorded a.name)
  where
    b : Attr
    b = record { name = encode_all a.name; value = encode_all a.value }

    go : (p : Bool) → NamedAttrs (cond p (b ∷ []) [])
    go true = (let h = name_some a.name e in let k = weight_length a.name in omega arith, tt)
    go false = tt

attributes_named : {x : Text} {zs : List Tree.Attr} → Attributes x zs → NamedAttrs (kept zs)
unfolding kept NamedAttrs
attributes_named no_attributes = tt
attributes_named (and_attribute {x} {y} {v} {zs} s n l r q k es en ef el er eq ev) =
    let a : Tree.Attr = record { name = n; value = v } in
    rw (kept_append zs (a ∷ [])) (attrs_append (kept zs) (kept (a ∷ [])) (attributes_named k) (one_named a en))

-- elements and content
pub named_then : (f g : Forest) → Named f → Named g → Named (then_l f g)
unfolding then_l Named
named_then empty g h k = k
named_then (tree n t zs ks f) g h k = (h.0, h.1, h.2, named_then f g h.3 k)

joined : (f g : Tree.Forest) → Named (shown f) → Named (shown g) → Named (shown (Tree.then f g))
joined f g h k = rw (shown_then f g) (named_then (shown f) (shown g) h k)

element_named : (n : Text) → is_name n ≡ true → 0 < weight (local_name n)
element_named n e = let h = local_some n e in let k = weight_length (local_name n) in omega arith

spells_named : {u : Sort} {d : ℕ} {x : Text} {p : Piece} → Spells u d x p → Named (shown p.kids)
unfolding shown Named
spells_named (element n l r e k el c er) = (element_named n e, attributes_named k, spells_named c, tt)
spells_named (empty_element n l e k el) = (element_named n e, attributes_named k, tt, tt)
spells_named nothing = tt
spells_named (and_char {d} {x} {p} c k e f) = joined p.kids Tree.none (spells_named k) tt
spells_named (and_reference {d} {x} {y} {p} {c} k r) = joined p.kids Tree.none (spells_named k) tt
spells_named (and_section {d} {x} {t} {p} k r) = joined p.kids Tree.none (spells_named k) tt
spells_named (and_comment k r) = spells_named k
spells_named (and_element {d} {x} {y} {p} {q} k e) = joined p.kids q.kids (spells_named k) (spells_named e)

pub named : {x : Text} {p : Piece} → Subset x p → Named (shown p.kids)
named (document a b e c) = spells_named e

-- so there are no more records than bytes of text
pub attrs_count : (zs : List Attr) → NamedAttrs zs → length zs ≤ attr_room zs
unfolding NamedAttrs attr_room
attrs_count [] h = omega arith
attrs_count (a ∷ zs) h = let k = attrs_count zs h.1 in omega arith

pub named_count : (f : Forest) → Named f → count f ≤ room f
unfolding Named count room
named_count empty h = omega arith
named_count (tree n t zs ks g) h =
    let a = attrs_count zs h.1 in
    let b = named_count ks h.2 in
    let c = named_count g h.3 in
    omega arith
