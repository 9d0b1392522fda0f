-- The records and the text of a document take no more than its bytes: a record at least four, and what is kept of a text at most the text.
use mathlib.Core.Path.{◌≡◌, refl, ap, ◌∙◌}
use mathlib.Core.Bool.{Bool, true, false, cond}
use mathlib.Core.List.{List, [], ◌∷◌, ◌++◌}
use Prim.Native.Nat.{ℕ, ◌+◌, ◌*◌, ◌≤◌, ◌<◌}
use native.Mathlib.Omega.{arith}
use lib.Dec.{eqb}
use lib.ListN.{length, length-append}
use Rattle.text.specs.Utf8.{encode}
use Rattle.text.proofs.Bools.{not_both}
use Rattle.characters.specs.Characters.{encode_all, utf8}
use Rattle.markup.specs.Classes.{is_space}
use Rattle.markup.specs.Points.{logical}
use Rattle.grammar.specs.Names.{Text, spaces, is_name, colons, behind_colon, local_name, recorded}
use Rattle.grammar.specs.Tree as Tree
use Rattle.grammar.specs.Tree.{Piece}
use Rattle.grammar.specs.Tokens.{Reference, decimal, hexadecimal, lt, gt, ampersand, apos, quot, flat, Value, no_value, and_plain, and_referred, Attributes, no_attributes, and_attribute}
use Rattle.grammar.specs.Grammar.{Sort, Spells, element, empty_element, nothing, and_char, and_reference, and_section, and_comment, and_element, Subset, document}
use Rattle.grammar.specs.Layout.{Attr, kept, shown, count, attr_room, room}
use Rattle.rooms.proofs.Joins.{shown_then, count_then, room_then}
use Rattle.rooms.proofs.Weights.{weight, encode_length, weight_none, weight_cons, weight_append, weight_length, logical_weight}

-- names
pub name_some : (n : Text) → is_name n ≡ true → 0 < length n
unfolding is_name
name_some [] e = absurd (not_both e refl)
name_some (c ∷ n) e = omega arith

spaces_some : (s : Text) → spaces s ≡ true → 0 < length s
unfolding spaces
spaces_some [] e = absurd (not_both e refl)
spaces_some (c ∷ s) e = omega arith

behind_weight : (n : Text) → weight (behind_colon n) ≤ weight n
unfolding behind_colon
behind_weight [] = omega arith
behind_weight (c ∷ n) = go (eqb c 0x3A) (behind_weight n)
  where
    go : (b : Bool) → weight (behind_colon n) ≤ weight n → weight (cond b n (behind_colon n)) ≤ weight (c ∷ n)
    go true h = omega (arith, weight_cons c n)
    go false h = omega (arith, weight_cons c n)

local_weight : (n : Text) → weight (local_name n) ≤ weight n
unfolding local_name
local_weight n = go (eqb (colons n) 0)
  where
    go : (b : Bool) → weight (cond b n (behind_colon n)) ≤ weight n
    go true = omega arith
    go false = behind_weight n

-- references and values
reference_long : {y : Text} {c : ℕ} → Reference y c → 4 ≤ length y
reference_long (decimal c ds e f g) = simp length-append (omega arith)
reference_long (hexadecimal c ds e f g) = simp length-append (omega arith)
reference_long lt = omega arith
reference_long gt = omega arith
reference_long ampersand = omega arith
reference_long apos = omega arith
reference_long quot = omega arith

reference_weight : {y : Text} {c : ℕ} → Reference y c → weight (c ∷ []) ≤ weight y
reference_weight {y} {c} r = let h = reference_long r in let k = encode_length c in let l = weight_length y in let e = weight_cons c [] in let z = weight_none in omega arith

space_length : length (encode 0x20) ≡ 1
unfolding encode
space_length = refl

flat_weight : (c : ℕ) → weight (flat c ∷ []) ≤ weight (c ∷ [])
unfolding flat
flat_weight c = go (is_space c)
  where
    go : (b : Bool) → weight (cond b 0x20 c ∷ []) ≤ weight (c ∷ [])
    go true = omega (arith, space_length, encode_length c, weight_cons 0x20 [], weight_cons c [])
    go false = omega arith

value_weight : {q : ℕ} {x v : Text} → Value q x v → weight v ≤ weight x
value_weight no_value = omega arith
value_weight (and_plain {x} {v} c k e) = let h = value_weight k in let f = flat_weight c in simp weight_append (omega arith)
value_weight (and_referred k r) = let h = value_weight k in let f = reference_weight r in simp weight_append (omega arith)

-- attributes
pub kept_append : (zs ys : List Tree.Attr) → kept (zs ++ ys) ≡ kept zs ++ kept ys
unfolding kept
kept_append [] ys = refl
kept_append (a ∷ zs) ys = go (recorded a.name) (kept_append zs ys)
  where
    b : Attr
    b = record { name = encode_all a.name; value = encode_all a.value }

    go : (p : Bool) → kept (zs ++ ys) ≡ kept zs ++ kept ys → cond p (b ∷ kept (zs ++ ys)) (kept (zs ++ ys)) ≡ cond p (b ∷ kept zs) (kept zs) ++ kept ys
    go true e = ap (λ (l : List Attr). b ∷ l) e
    go false e = e

attr_room_append : (zs ys : List Attr) → attr_room (zs ++ ys) ≡ attr_room zs + attr_room ys
unfolding attr_room
attr_room_append [] ys = omega arith
attr_room_append (a ∷ zs) ys = let h = attr_room_append zs ys in omega arith

kept_one : (a : Tree.Attr) → (length (kept (a ∷ [])) ≤ 1) × (attr_room (kept (a ∷ [])) ≤ weight a.name + weight a.value)
unfolding kept attr_room
kept_one a = go (recorded a.name)
  where
    b : Attr
    b = record { name = encode_all a.name; value = encode_all a.value }

    go : (p : Bool) → (length (cond p (b ∷ []) []) ≤ 1) × (attr_room (cond p (b ∷ []) []) ≤ weight a.name + weight a.value)
    go true = omega arith
    go false = omega arith

attributes_count : {x : Text} {zs : List Tree.Attr} → Attributes x zs → 4 * length (kept zs) ≤ length x
unfolding kept
attributes_count no_attributes = omega arith
attributes_count (and_attribute {x} {y} {v} {zs} s n l r q k es en ef el er eq ev) =
    let a : Tree.Attr = record { name = n; value = v } in
    let h = attributes_count k in
    let o = kept_one a in
    let b = name_some n en in
    let c = spaces_some s es in
    rw (kept_append zs (a ∷ [])) (simp length-append (omega arith))

attributes_weight : {x : Text} {zs : List Tree.Attr} → Attributes x zs → attr_room (kept zs) ≤ weight x
unfolding kept attr_room
attributes_weight no_attributes = omega arith
attributes_weight (and_attribute {x} {y} {v} {zs} s n l r q k es en ef el er eq ev) =
    let a : Tree.Attr = record { name = n; value = v } in
    let h = attributes_weight k in
    let o = kept_one a in
    let w = value_weight ev in
    rw (kept_append zs (a ∷ []), attr_room_append (kept zs) (kept (a ∷ []))) (simp (weight_append, weight_cons) (omega arith))

-- elements and content
count_shown : (f g : Tree.Forest) → count (shown (Tree.then f g)) ≡ count (shown f) + count (shown g)
count_shown f g = ap count (shown_then f g) ∙ count_then (shown f) (shown g)

room_shown : (f g : Tree.Forest) → room (shown (Tree.then f g)) ≡ room (shown f) + room (shown g)
room_shown f g = ap room (shown_then f g) ∙ room_then (shown f) (shown g)

spells_count : {u : Sort} {d : ℕ} {x : Text} {p : Piece} → Spells u d x p → 4 * count (shown p.kids) ≤ length x
unfolding shown count
spells_count (element {d} {a} {x} {zs} {p} n l r e k el c er) =
    let h = spells_count c in
    let i = attributes_count k in
    let o = name_some n e in
    simp length-append (omega arith)
spells_count (empty_element {d} {a} {zs} n l e k el) =
    let i = attributes_count k in
    let o = name_some n e in
    simp length-append (omega arith)
spells_count nothing = omega arith
spells_count (and_char {d} {x} {p} c k e f) = let h = spells_count k in let i = count_shown p.kids Tree.none in simp length-append (omega arith)
spells_count (and_reference {d} {x} {y} {p} {c} k r) = let h = spells_count k in let i = count_shown p.kids Tree.none in simp length-append (omega arith)
spells_count (and_section {d} {x} {t} {p} k r) = let h = spells_count k in let i = count_shown p.kids Tree.none in simp length-append (omega arith)
spells_count (and_comment k r) = let h = spells_count k in simp length-append (omega arith)
spells_count (and_element {d} {x} {y} {p} {q} k e) = let h = spells_count k in let j = spells_count e in let i = count_shown p.kids q.kids in simp length-append (omega arith)

spells_weight : {u : Sort} {d : ℕ} {x : Text} {p : Piece} → Spells u d x p → weight p.text + room (shown p.kids) ≤ weight x
unfolding shown room
spells_weight (element {d} {a} {x} {zs} {p} n l r e k el c er) =
    let h = spells_weight c in
    let i = attributes_weight k in
    let o = local_weight n in
    let z = weight_none in
    simp (weight_append, weight_cons) (omega arith)
spells_weight (empty_element {d} {a} {zs} n l e k el) =
    let i = attributes_weight k in
    let o = local_weight n in
    let z = weight_none in
    simp (weight_append, weight_cons) (omega arith)
spells_weight nothing = omega (arith, weight_none)
spells_weight (and_char {d} {x} {p} c k e f) = let h = spells_weight k in let i = room_shown p.kids Tree.none in simp weight_append (omega arith)
spells_weight (and_reference {d} {x} {y} {p} {c} k r) = let h = spells_weight k in let i = room_shown p.kids Tree.none in let j = reference_weight r in simp weight_append (omega arith)
spells_weight (and_section {d} {x} {t} {p} k r) = let h = spells_weight k in let i = room_shown p.kids Tree.none in simp weight_append (omega arith)
spells_weight (and_comment k r) = let h = spells_weight k in simp weight_append (omega arith)
spells_weight (and_element {d} {x} {y} {p} {q} k e) = let h = spells_weight k in let j = spells_weight e in let i = room_shown p.kids q.kids in simp weight_append (omega arith)

subset_few : {x : Text} {p : Piece} → Subset x p → (4 * count (shown p.kids) ≤ weight x) × (room (shown p.kids) ≤ weight x)
subset_few (document {l} {x} {y} {z} a b e c) = let h = spells_count e in let i = spells_weight e in let k = weight_length y in simp weight_append (omega arith, omega arith)

-- a record takes four bytes at least, and the text is no longer than the document
pub few : (s : List ℕ) {p : Piece} → utf8 s ≡ true → Subset (logical s) p → (4 * count (shown p.kids) ≤ length s) × (room (shown p.kids) ≤ length s)
few s u k = let h = subset_few k in let i = logical_weight s u in (omega arith, omega arith)
