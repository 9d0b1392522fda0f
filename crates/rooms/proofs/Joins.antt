-- Laws of elements side by side: what is laid out of both is what is laid out of each.
use mathlib.Core.Path.{◌≡◌, refl, ap}
use mathlib.Core.List.{List, [], ◌∷◌, ◌++◌, append_assoc}
use Prim.Native.Nat.{ℕ, suc, ◌+◌, ◌<◌}
use native.Mathlib.Nat.{add-zero}
use native.Mathlib.Omega.{arith}
use lib.ListN.{length}
use Rattle.characters.specs.Characters.{encode_all}
use Rattle.grammar.specs.Names.{local_name}
use Rattle.grammar.specs.Tree as Tree
use Rattle.grammar.specs.Layout.{Attr, Forest, empty, tree, kept, shown, count, attr_room, room, rows, texts}
use Rattle.rooms.specs.Joined.{then_l}
use Rattle.rooms.specs.Cells.{last_attr, last_of}
use Rattle.rooms.specs.Blank.{blank}

pub shown_then : (f g : Tree.Forest) → shown (Tree.then f g) ≡ then_l (shown f) (shown g)
unfolding Tree.then shown then_l
shown_then Tree.none g = refl
shown_then (Tree.tree n zs t ks f) g = ap (tree (encode_all (local_name n)) (encode_all t) (kept zs) (shown ks)) (shown_then f g)

pub count_then : (f g : Forest) → count (then_l f g) ≡ count f + count g
unfolding then_l count
count_then empty g = omega arith
count_then (tree n t zs ks f) g = let e = count_then f g in omega arith

pub room_then : (f g : Forest) → room (then_l f g) ≡ room f + room g
unfolding then_l room
room_then empty g = omega arith
room_then (tree n t zs ks f) g = let e = room_then f g in omega arith

pub texts_then : (f g : Forest) → texts (then_l f g) ≡ texts f ++ texts g
unfolding then_l texts
texts_then empty g = refl
texts_then (tree n t zs ks f) g = rw (texts_then f g) (simp append_assoc)

pub rows-then : (q k p : ℕ) (f g : Forest) → rows q k p (then_l f g) ≡ rows q k p f ++ rows q (k + count f) (p + room f) g
unfolding then_l rows count room
rows-then q k p empty g = rw (add-zero k, add-zero p)
rows-then q k p (tree n t zs ks f) g =
    let i = suc k + length zs + count ks in
    let j = p + length n + length t + attr_room zs + room ks in
    let a : i + count f ≡ k + suc (length zs + (count ks + count f)) = omega arith in
    let b : j + room f ≡ p + (length n + (length t + (attr_room zs + (room ks + room f)))) = omega arith in
    rw (rows-then q i j f g, a, b) (simp append_assoc)

pub blank_then : (q k : ℕ) (f g : Forest) → blank q k (then_l f g) ≡ blank q k f ++ blank q (k + count f) g
unfolding then_l blank count
blank_then q k empty g = rw (add-zero k)
blank_then q k (tree n t zs ks f) g =
    let i = suc k + length zs + count ks in
    let a : i + count f ≡ k + suc (length zs + (count ks + count f)) = omega arith in
    rw (blank_then q i f g, a) (simp append_assoc)

pub last_then : (d : ℕ) (f g : Forest) → last_of d (then_l f g) ≡ last_of (last_of d f) g
unfolding then_l last_of
last_then d empty g = refl
last_then d (tree n t zs ks f) g = last_then (last_of (last_attr (length t) zs) ks) f g

-- with a record the length of the last one's text is that record's own
pub last_any : (d e : ℕ) (zs : List Attr) (ks : Forest) → 0 < length zs + count ks → last_of (last_attr d zs) ks ≡ last_of (last_attr e zs) ks
unfolding last_attr last_of count
last_any d e (a ∷ zs) ks h = refl
last_any d e [] (tree n t zs ks g) h = refl
last_any d e [] empty h = absurd (omega arith)
