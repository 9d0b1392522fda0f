-- The rows without starts, filled in, are the table's rows; and how long rows and text are.
use mathlib.Core.Path.{◌≡◌, refl, sym, ap, ◌∙◌}
use mathlib.Core.List.{List, [], ◌∷◌, ◌++◌, append_assoc, append-nil}
use Prim.Native.Nat.{ℕ, suc, ◌+◌, ◌*◌}
use native.Mathlib.Nat.{add-zero}
use native.Mathlib.Omega.{arith}
use lib.ListN.{length, length-append}
use Rattle.grammar.specs.Layout.{Attr, Forest, empty, tree, count, attr_room, room, row, attr_rows, rows, attr_texts, texts}
use Rattle.rooms.specs.Blank.{blank_attrs, blank, filled}

filled_attrs : (p q : ℕ) (zs : List Attr) (rest : List ℕ) → filled p (blank_attrs q zs ++ rest) ≡ attr_rows q p zs ++ filled (p + attr_room zs) rest
unfolding blank_attrs attr_rows attr_room filled
filled_attrs p q [] rest = rw (add-zero p)
filled_attrs p q (a ∷ zs) rest =
    let i = p + length a.name + length a.value in
    let e : i + attr_room zs ≡ p + (length a.name + (length a.value + attr_room zs)) = omega arith in
    rw (filled_attrs i q zs rest, e)

-- with further rows behind them
pub filled_more : (p q k : ℕ) (f : Forest) (rest : List ℕ) → filled p (blank q k f ++ rest) ≡ rows q k p f ++ filled (p + room f) rest
unfolding blank rows room filled
filled_more p q k empty rest = rw (add-zero p)
filled_more p q k (tree n t zs ks g) rest =
    let i = p + length n + length t in
    let e : i + attr_room zs + room ks + room g ≡ p + (length n + (length t + (attr_room zs + (room ks + room g)))) = omega arith in
    let b = blank k (suc k + length zs) ks in
    let c = blank q (suc k + length zs + count ks) g in
    ap (λ (l : List ℕ). row 1 q p n t ++ l)
    (ap (filled i) (append_assoc (blank_attrs k zs) (b ++ c) rest ∙ ap (λ (l : List ℕ). blank_attrs k zs ++ l) (append_assoc b c rest))
    ∙ filled_attrs i k zs (b ++ (c ++ rest))
    ∙ rw (filled_more (i + attr_room zs) k (suc k + length zs) ks (c ++ rest), filled_more (i + attr_room zs + room ks) q (suc k + length zs + count ks) g rest, e)
    (simp append_assoc))

pub filled_rows : (p q k : ℕ) (f : Forest) → filled p (blank q k f) ≡ rows q k p f
unfolding filled
filled_rows p q k f = ap (filled p) (sym (append-nil (blank q k f))) ∙ filled_more p q k f [] ∙ append-nil (rows q k p f)

pub length_attr_rows : (q p : ℕ) (zs : List Attr) → length (attr_rows q p zs) ≡ 6 * length zs
unfolding attr_rows
length_attr_rows q p [] = refl
length_attr_rows q p (a ∷ zs) = let h = length_attr_rows q (p + length a.name + length a.value) zs in omega arith

length_blank_attrs : (q : ℕ) (zs : List Attr) → length (blank_attrs q zs) ≡ 6 * length zs
unfolding blank_attrs
length_blank_attrs q [] = refl
length_blank_attrs q (a ∷ zs) = let h = length_blank_attrs q zs in omega arith

pub length_blank : (q k : ℕ) (f : Forest) → length (blank q k f) ≡ 6 * count f
unfolding blank count
length_blank q k empty = refl
length_blank q k (tree n t zs ks g) =
    let a = length_blank_attrs k zs in
    let b = length_blank k (suc k + length zs) ks in
    let c = length_blank q (suc k + length zs + count ks) g in
    simp length-append (omega arith)

pub length_rows : (q k p : ℕ) (f : Forest) → length (rows q k p f) ≡ 6 * count f
unfolding rows count
length_rows q k p empty = refl
length_rows q k p (tree n t zs ks g) =
    let a = length_attr_rows k (p + length n + length t) zs in
    let b = length_rows k (suc k + length zs) (p + length n + length t + attr_room zs) ks in
    let c = length_rows q (suc k + length zs + count ks) (p + length n + length t + attr_room zs + room ks) g in
    simp length-append (omega arith)

length_attr_texts : (zs : List Attr) → length (attr_texts zs) ≡ attr_room zs
unfolding attr_texts attr_room
length_attr_texts [] = refl
length_attr_texts (a ∷ zs) = let h = length_attr_texts zs in simp length-append (omega arith)

pub length_texts : (f : Forest) → length (texts f) ≡ room f
unfolding texts room
length_texts empty = refl
length_texts (tree n t zs ks g) =
    let a = length_attr_texts zs in
    let b = length_texts ks in
    let c = length_texts g in
    simp length-append (omega arith)
