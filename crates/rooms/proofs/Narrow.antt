-- The numbers of a document's rows are at most the start and the length of the last record's text, so that these two tell whether all fit 32 bits.
use mathlib.Core.Path.{◌≡◌, refl, sym, ap, ◌∙◌}
use mathlib.Core.Bool.{Bool, true, false, ◌&&◌}
use mathlib.Core.List.{List, [], ◌∷◌, ◌++◌}
use Prim.Native.Nat.{ℕ, suc, ◌+◌, ◌-◌, ◌≤◌}
use native.Mathlib.Nat.{add-zero, zero-add}
use native.Mathlib.Omega.{arith}
use lib.Dec.{leb}
use lib.ListN.{length}
use borrow.Author.Tests.{leb-true, le-leb}
use Rattle.text.proofs.Bools.{both}
use Rattle.grammar.specs.Layout.{Attr, Forest, empty, tree, count, attr_room, room, row, attr_rows, rows}
use Rattle.rooms.specs.Cells.{narrow, last_attr, last_of}
use Rattle.rooms.specs.Named.{Named}
use Rattle.rooms.proofs.Names.{attrs_count, named_count}

-- a text of d bytes that ends at p: its start and its length fit
abbrev fits : ℕ → ℕ → Bool
fits d p = leb (p - d) 4294967295 && leb d 4294967295

last_attr_room : (d : ℕ) (zs : List Attr) → last_attr d zs ≤ d + attr_room zs
unfolding last_attr attr_room
last_attr_room d [] = omega arith
last_attr_room d (a ∷ zs) = let h = last_attr_room (length a.value) zs in omega arith

last_room : (d : ℕ) (f : Forest) → last_of d f ≤ d + room f
unfolding last_of room
last_room d empty = omega arith
last_room d (tree n t zs ks g) =
    let a = last_attr_room (length t) zs in
    let b = last_room (last_attr (length t) zs) ks in
    let c = last_room (last_of (last_attr (length t) zs) ks) g in
    omega arith

-- tests that pass together
same_tests : (p q : Bool) → (p ≡ true → q ≡ true) → (q ≡ true → p ≡ true) → p ≡ q
same_tests true true f g = refl
same_tests true false f g = sym (f refl)
same_tests false true f g = g refl
same_tests false false f g = refl

all_of : (p q r : Bool) → (p && q) && r ≡ p && (q && r)
all_of true q r = refl
all_of false q r = refl

pub narrow_append : (x y : List ℕ) → narrow (x ++ y) ≡ narrow x && narrow y
unfolding narrow
narrow_append [] y = refl
narrow_append (n ∷ x) y = rw (narrow_append x y) (sym (all_of (leb n 4294967295) (narrow x) (narrow y)))

all_true : (p : Bool) → p ≡ p && true
all_true true = refl
all_true false = refl

in_a_row : (a b c d e : Bool) → (((a && b) && c) && d) && e ≡ a && (b && (c && (d && e)))
in_a_row a b c d e = rw (all_of a b c, all_of a (b && c) d, all_of b c d, all_of a (b && (c && d)) e, all_of b (c && d) e, all_of c d e)

cell : (n : ℕ) (l : List ℕ) → narrow (n ∷ l) ≡ true → (n ≤ 4294967295) × (narrow l ≡ true)
unfolding narrow
cell n l e = let h = both (leb n 4294967295) (narrow l) e in (leb-true n 4294967295 h.0, h.1)

cell_yes : (n : ℕ) (l : List ℕ) → n ≤ 4294967295 → narrow l ≡ true → narrow (n ∷ l) ≡ true
unfolding narrow
cell_yes n l h e = rw (le-leb n 4294967295 h, e)

none_wide : narrow [] ≡ true
unfolding narrow
none_wide = refl

-- a record behind a text of d bytes that ends at p
record_narrow : (kind q p d : ℕ) (n t : List ℕ) → kind ≤ 2 → q ≤ p → d ≤ p → fits (length t) (p + length n + length t) ≡ fits d p && narrow (row kind q p n t)
record_narrow kind q p d n t h hq hd = same_tests (fits (length t) (p + length n + length t)) (fits d p && narrow (row kind q p n t)) to from
  where
    M : ℕ
    M = 4294967295

    to : fits (length t) (p + length n + length t) ≡ true → (fits d p && narrow (row kind q p n t)) ≡ true
    to e =
        let i = both (leb (p + length n + length t - length t) M) (leb (length t) M) e in
        let a = leb-true (p + length n + length t - length t) M i.0 in
        let b = leb-true (length t) M i.1 in
        let r = cell_yes kind _ (omega arith) (cell_yes q _ (omega arith) (cell_yes p _ (omega arith) (cell_yes (length n) _ (omega arith) (cell_yes (p + length n) _ (omega arith) (cell_yes (length t) _ b none_wide))))) in
        rw (le-leb (p - d) M (omega arith), le-leb d M (omega arith)) r

    from : (fits d p && narrow (row kind q p n t)) ≡ true → fits (length t) (p + length n + length t) ≡ true
    from e =
        let a = (cell _ _ (both (fits d p) (narrow (row kind q p n t)) e).1).1 in
        let b = cell _ _ (cell _ _ (cell _ _ (cell _ _ a).1).1).1 in
        let c = cell _ _ b.1 in
        rw (le-leb (p + length n + length t - length t) M (omega (arith, b.0)), le-leb (length t) M c.0)

attrs_narrow : (q p d : ℕ) (zs : List Attr) → q ≤ p → d ≤ p → fits (last_attr d zs) (p + attr_room zs) ≡ fits d p && narrow (attr_rows q p zs)
unfolding last_attr attr_room attr_rows
attrs_narrow q p d [] h k = rw (add-zero p, none_wide) (all_true (fits d p))
attrs_narrow q p d (a ∷ zs) h k =
    let n = a.name in
    let t = a.value in
    let i = p + length n + length t in
    let e : p + (length n + (length t + attr_room zs)) ≡ i + attr_room zs = omega arith in
    ap (fits (last_attr (length t) zs)) e
    ∙ attrs_narrow q i (length t) zs (omega arith) (omega arith)
    ∙ ap (λ (b : Bool). b && narrow (attr_rows q i zs)) (record_narrow 2 q p d n t (omega arith) h k)
    ∙ all_of (fits d p) (narrow (row 2 q p n t)) (narrow (attr_rows q i zs))
    ∙ ap (λ (b : Bool). fits d p && b) (sym (narrow_append (row 2 q p n t) (attr_rows q i zs)))

rows_narrow : (q k p d : ℕ) (f : Forest) → q ≤ k → k ≤ p → d ≤ p → Named f → fits (last_of d f) (p + room f) ≡ fits d p && narrow (rows q k p f)
unfolding last_of room rows Named
rows_narrow q k p d empty hq hk hd h = rw (add-zero p, none_wide) (all_true (fits d p))
rows_narrow q k p d (tree n t zs ks g) hq hk hd h =
    let i = p + length n + length t in
    let j = i + attr_room zs in
    let m = j + room ks in
    let c = last_attr (length t) zs in
    let e = last_of c ks in
    let A = attr_rows k i zs in
    let K = rows k (suc k + length zs) j ks in
    let G = rows q (suc k + length zs + count ks) m g in
    let l₁ = last_attr_room (length t) zs in
    let l₂ = last_room c ks in
    let n₁ = attrs_count zs h.1 in
    let n₂ = named_count ks h.2 in
    let z : p + (length n + (length t + (attr_room zs + (room ks + room g)))) ≡ m + room g = omega arith in
    ap (fits (last_of e g)) z
    ∙ rows_narrow q (suc k + length zs + count ks) m e g (omega arith) (omega arith) (omega arith) h.3
    ∙ ap (λ (b : Bool). b && narrow G)
    (rows_narrow k (suc k + length zs) j c ks (omega arith) (omega arith) (omega arith) h.2
    ∙ ap (λ (b : Bool). b && narrow K)
    (attrs_narrow k i (length t) zs (omega arith) (omega arith)
    ∙ ap (λ (b : Bool). b && narrow A) (record_narrow 1 q p d n t (omega arith) (omega arith) hd)))
    ∙ in_a_row (fits d p) (narrow (row 1 q p n t)) (narrow A) (narrow K) (narrow G)
    ∙ ap (λ (b : Bool). fits d p && b) (sym (narrow_append (row 1 q p n t) (A ++ (K ++ G)) ∙ ap (λ (b : Bool). narrow (row 1 q p n t) && b) (narrow_append A (K ++ G) ∙ ap (λ (b : Bool). narrow A && b) (narrow_append K G))))

-- the numbers of a table's rows fit if those of the last record's text do (request R-3, refusal 25)
pub narrow_rows : (f : Forest) → Named f → narrow (rows 0 0 0 f) ≡ leb (room f - last_of 0 f) 4294967295 && leb (last_of 0 f) 4294967295
narrow_rows f h = sym (rw zero-add at (rows_narrow 0 0 0 0 f (omega arith) (omega arith) (omega arith) h))
