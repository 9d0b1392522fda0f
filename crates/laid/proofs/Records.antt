-- The rows and texts of a document, record by record: `laid`.
use mathlib.Core.Path.{◌≡◌, refl, sym, ap, ap₂, ◌∙◌}
use mathlib.Core.Bool.{false}
use mathlib.Core.List.{List, [], ◌∷◌, ◌++◌, append_assoc, append-nil}
use Prim.Native.Nat.{ℕ, suc, ◌+◌, ◌*◌, ◌≤◌}
use native.Mathlib.Omega.{arith}
use borrow.Author.Tests.{le-ltb}
use lib.ListN.{length, get_or, take, drop, length-append}
use lib.Seq.{take-append_seam, drop-append_seam, get_or-append-add}
use Rattle.text.specs.Span.{clipped}
use Rattle.table.specs.Table.{cell, name_of, text_of}
use Rattle.refusals.specs.Refusals.{beyond, outside}
use Rattle.grammar.specs.Layout.{Attr, Forest, empty, tree, count, row, attr_room, room, attr_rows, rows, attr_texts, texts}

-- record k of the table T with the text X
module _ (T X : List ℕ) where
  pub record IsRecord (kind q k : ℕ) (n t : List ℕ) : Type 0 where
    pub kind-is : cell T k 0 ≡ kind
    pub parent_is : cell T k 1 ≡ q
    pub name_is : name_of T X k ≡ n
    pub text_is : text_of T X k ≡ t
    pub size_is : cell T k 5 ≡ length t
    pub inside : outside T X k ≡ false

  abbrev pub LaidAttrs : ℕ → ℕ → List Attr → Type 0
  LaidAttrs q k [] = Unit {0}
  LaidAttrs q k (a ∷ zs) = IsRecord 2 q k a.name a.value × LaidAttrs q (suc k) zs

  -- elements under q, from record k on
  abbrev pub Laid : ℕ → ℕ → Forest → Type 0
  Laid q k empty = Unit {0}
  Laid q k (tree n t zs ks g) = IsRecord 1 q k n t × LaidAttrs k (suc k) zs × Laid k (suc k + length zs) ks × Laid q (suc k + length zs + count ks) g

-- a list has these numbers from a place on
record Has (l : List ℕ) (at : ℕ) (vs : List ℕ) : Type 0 where
  pub front : List ℕ
  pub back : List ℕ
  pub is : l ≡ front ++ (vs ++ back)
  pub place : length front ≡ at

-- of two lists one after the other it has both
has_first : (l vs ws : List ℕ) (at : ℕ) → Has l at (vs ++ ws) → Has l at vs
has_first l vs ws at h = record { front = h.front; back = ws ++ h.back; is = h.is ∙ ap (λ (z : List ℕ). h.front ++ z) (append_assoc vs ws h.back); place = h.place }

has_then : (l vs ws : List ℕ) (at : ℕ) → Has l at (vs ++ ws) → Has l (at + length vs) ws
has_then l vs ws at h =
    record {
      front = h.front ++ vs;
      back = h.back;
      is = h.is ∙ ap (λ (z : List ℕ). h.front ++ z) (append_assoc vs ws h.back) ∙ sym (append_assoc h.front vs (ws ++ h.back));
      place = length-append h.front vs ∙ ap (λ (z : ℕ). z + length vs) h.place;
    }

has_at : (l vs : List ℕ) (a b : ℕ) → a ≡ b → Has l a vs → Has l b vs
has_at l vs a b e h = record { front = h.front; back = h.back; is = h.is; place = h.place ∙ e }

-- what a part shows
has_shown : (l vs : List ℕ) (at : ℕ) → Has l at vs → clipped l at (length vs) ≡ vs
unfolding clipped
has_shown l vs at h =
    ap₂ (λ (p : ℕ) (z : List ℕ). take (length vs) (drop p z)) (sym h.place) h.is ∙ ap (λ (z : List ℕ). take (length vs) z) (drop-append_seam h.front (vs ++ h.back)) ∙ take-append_seam vs h.back

has_cell : (l vs : List ℕ) (at i : ℕ) (h : Has l at vs) → get_or l (at + i) 0 ≡ get_or (vs ++ h.back) i 0
has_cell l vs at i h = ap₂ (λ (p : ℕ) (z : List ℕ). get_or z (p + i) 0) (sym h.place) h.is ∙ get_or-append-add h.front (vs ++ h.back) i 0

has_inside : (l vs : List ℕ) (at : ℕ) → Has l at vs → at + length vs ≤ length l
has_inside l vs at h =
    let e : length l ≡ length h.front + (length vs + length h.back) =
    ap (λ (z : List ℕ). length z) h.is ∙ length-append h.front (vs ++ h.back) ∙ ap (λ (z : ℕ). length h.front + z) (length-append vs h.back) in
    omega (arith, e, h.place)

has_within : (X vs : List ℕ) (p u v : ℕ) → u ≡ p → v ≡ length vs → Has X p vs → beyond X u v ≡ false
unfolding beyond
has_within X vs p u v a b h = rw (a, b) (le-ltb (length X) (p + length vs) (has_inside X vs p h))

record-of : (T X n t : List ℕ) (kind q k p : ℕ) → Has T (k * 6) (row kind q p n t) → Has X p n → Has X (p + length n) t → IsRecord T X kind q k n t
unfolding name_of text_of outside
record-of T X n t kind q k p h a b =
    record {
      kind-is = has_cell T (row kind q p n t) (k * 6) 0 h;
      parent_is = has_cell T (row kind q p n t) (k * 6) 1 h;
      name_is = ap₂ (λ (u v : ℕ). clipped X u v) (has_cell T (row kind q p n t) (k * 6) 2 h) (has_cell T (row kind q p n t) (k * 6) 3 h) ∙ has_shown X n p a;
      text_is = ap₂ (λ (u v : ℕ). clipped X u v) (has_cell T (row kind q p n t) (k * 6) 4 h) (has_cell T (row kind q p n t) (k * 6) 5 h) ∙ has_shown X t (p + length n) b;
      size_is = has_cell T (row kind q p n t) (k * 6) 5 h;
      inside =
          rw (
            has_within X n p (cell T k 2) (cell T k 3) (has_cell T (row kind q p n t) (k * 6) 2 h) (has_cell T (row kind q p n t) (k * 6) 3 h) a,
            has_within X t (p + length n) (cell T k 4) (cell T k 5) (has_cell T (row kind q p n t) (k * 6) 4 h) (has_cell T (row kind q p n t) (k * 6) 5 h) b,
          );
    }

attr_rows_length : (q p : ℕ) (zs : List Attr) → length (attr_rows q p zs) ≡ length zs * 6
unfolding attr_rows
attr_rows_length q p [] = refl
attr_rows_length q p (a ∷ zs) = let h = attr_rows_length q (p + length a.name + length a.value) zs in omega (arith, h)

attr_texts_length : (zs : List Attr) → length (attr_texts zs) ≡ attr_room zs
unfolding attr_texts attr_room
attr_texts_length [] = refl
attr_texts_length (a ∷ zs) = length-append a.name (a.value ++ attr_texts zs) ∙ ap (λ (z : ℕ). length a.name + z) (length-append a.value (attr_texts zs) ∙ ap (λ (z : ℕ). length a.value + z) (attr_texts_length zs))

laid_attrs : (T X : List ℕ) (zs : List Attr) (q k p : ℕ) → Has T (k * 6) (attr_rows q p zs) → Has X p (attr_texts zs) → LaidAttrs T X q k zs
unfolding attr_rows attr_texts
laid_attrs T X [] q k p h b = tt
laid_attrs T X (a ∷ zs) q k p h b =
    let r = row 2 q p a.name a.value in
    let p' = p + length a.name + length a.value in
    let c = has_then X a.name (a.value ++ attr_texts zs) p b in (
      record-of T X a.name a.value 2 q k p (has_first T r (attr_rows q p' zs) (k * 6) h) (has_first X a.name (a.value ++ attr_texts zs) p b) (has_first X a.value (attr_texts zs) (p + length a.name) c),
      laid_attrs T X zs q (suc k) p' (has_at T (attr_rows q p' zs) (k * 6 + 6) (suc k * 6) (omega arith) (has_then T r (attr_rows q p' zs) (k * 6) h)) (has_then X a.value (attr_texts zs) (p + length a.name) c),
    )

-- the text has as many bytes as `room` says, the table six numbers for each record that `count` counts
pub texts_length : (f : Forest) → length (texts f) ≡ room f
unfolding texts room
texts_length empty = refl
texts_length (tree n t zs ks g) =
    let a = length-append n (t ++ (attr_texts zs ++ (texts ks ++ texts g))) in
    let b = length-append t (attr_texts zs ++ (texts ks ++ texts g)) in
    let c = length-append (attr_texts zs) (texts ks ++ texts g) in
    let d = length-append (texts ks) (texts g) in
    let e = attr_texts_length zs in
    let u = texts_length ks in
    let v = texts_length g in
    omega (arith, a, b, c, d, e, u, v)

pub rows_length : (f : Forest) (q k p : ℕ) → length (rows q k p f) ≡ count f * 6
unfolding rows count
rows_length empty q k p = refl
rows_length (tree n t zs ks g) q k p =
    let p₁ = p + length n + length t in
    let p₂ = p₁ + attr_room zs in
    let A = attr_rows k p₁ zs in
    let K = rows k (suc k + length zs) p₂ ks in
    let G = rows q (suc k + length zs + count ks) (p₂ + room ks) g in
    let a = length-append A (K ++ G) in
    let b = length-append K G in
    let c = attr_rows_length k p₁ zs in
    let u = rows_length ks k (suc k + length zs) p₂ in
    let v = rows_length g q (suc k + length zs + count ks) (p₂ + room ks) in
    omega (arith, a, b, c, u, v)

laid : (T X : List ℕ) (f : Forest) (q k p : ℕ) → Has T (k * 6) (rows q k p f) → Has X p (texts f) → Laid T X q k f
unfolding rows texts
laid T X empty q k p h b = tt
laid T X (tree n t zs ks g) q k p h b =
    let p₁ = p + length n + length t in
    let p₂ = p₁ + attr_room zs in
    let k₁ = suc k + length zs in
    let k₂ = k₁ + count ks in
    let r = row 1 q p n t in
    let A = attr_rows k p₁ zs in
    let K = rows k k₁ p₂ ks in
    let G = rows q k₂ (p₂ + room ks) g in
    let c = attr_rows_length k p₁ zs in
    let u = rows_length ks k k₁ p₂ in
    let h₁ = has_at T (A ++ (K ++ G)) (k * 6 + 6) (suc k * 6) (omega arith) (has_then T r (A ++ (K ++ G)) (k * 6) h) in
    let h₂ = has_at T (K ++ G) (suc k * 6 + length A) (k₁ * 6) (omega (arith, c)) (has_then T A (K ++ G) (suc k * 6) h₁) in
    let h₃ = has_at T G (k₁ * 6 + length K) (k₂ * 6) (omega (arith, u)) (has_then T K G (k₁ * 6) h₂) in
    let b₁ = has_then X n (t ++ (attr_texts zs ++ (texts ks ++ texts g))) p b in
    let b₂ = has_then X t (attr_texts zs ++ (texts ks ++ texts g)) (p + length n) b₁ in
    let b₃ = has_at X (texts ks ++ texts g) (p₁ + length (attr_texts zs)) p₂ (ap (λ (z : ℕ). p₁ + z) (attr_texts_length zs)) (has_then X (attr_texts zs) (texts ks ++ texts g) p₁ b₂) in
    let b₄ = has_at X (texts g) (p₂ + length (texts ks)) (p₂ + room ks) (ap (λ (z : ℕ). p₂ + z) (texts_length ks)) (has_then X (texts ks) (texts g) p₂ b₃) in (
      record-of T X n t 1 q k p (has_first T r (A ++ (K ++ G)) (k * 6) h) (has_first X n (t ++ (attr_texts zs ++ (texts ks ++ texts g))) p b) (has_first X t (attr_texts zs ++ (texts ks ++ texts g)) (p + length n) b₁),
      laid_attrs T X zs k (suc k) p₁ (has_first T A (K ++ G) (suc k * 6) h₁) (has_first X (attr_texts zs) (texts ks ++ texts g) p₁ b₂),
      laid T X ks k k₁ p₂ (has_first T K G (k₁ * 6) h₂) (has_first X (texts ks) (texts g) p₂ b₃),
      laid T X g q k₂ (p₂ + room ks) h₃ b₄,
    )

-- the whole table
pub laid-out : (f : Forest) → Laid (rows 0 0 0 f) (texts f) 0 0 f
laid-out f = laid (rows 0 0 0 f) (texts f) f 0 0 0 (all_of (rows 0 0 0 f)) (all_of (texts f))
  where
    all_of : (l : List ℕ) → Has l 0 l
    all_of l = record { front = []; back = []; is = sym (append-nil l); place = refl }
