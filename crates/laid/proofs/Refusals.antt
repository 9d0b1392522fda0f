-- What the reader refuses of the table of a document: a size over the limits, or another name of the root, and nothing else.
use mathlib.Core.Path.{◌≡◌, refl, sym, ◌∙◌, subst}
use mathlib.Core.Bool.{true, false, ◌||◌, not}
use mathlib.Core.List.{List, [], ◌∷◌}
use mathlib.Core.Option.{none}
use Prim.Native.Nat.{ℕ, suc, ◌+◌, ◌-◌, ◌%◌, ◌≤◌, ◌<◌}
use native.Mathlib.Omega.{arith}
use native.Mathlib.Decide.{ℕ_discrete, dec_lt}
use borrow.Author.Tests.{eq-eqb, ne_eqb, lt-ltb, le-ltb}
use lib.Dec.{eqb}
use lib.ListN.{length}
use Rattle.text.specs.Order.{equal}
use Rattle.text.specs.Utf8.{bytes}
use Rattle.text.proofs.Orders.{equal_refl}
use Rattle.characters.specs.Characters.{utf8}
use Rattle.table.specs.Table.{records, cell, named}
use Rattle.refusals.specs.Refusals.{ragged, oversized, not_root, misplaced, outside, not_utf8, not_settlement, at_root, refuse, record_refusal, size_refusal, refusal}
use Rattle.refusals.proofs.Accepting.{all_pass}
use Rattle.grammar.specs.Layout.{Attr, Forest, empty, tree, count, room, rows, texts}
use Rattle.laid.specs.Trees.{OneRoot, root, root_name, over_limit}
use Rattle.laid.specs.Readable.{ReadableAttrs, Readable}
use Rattle.laid.proofs.Records.{IsRecord, LaidAttrs, Laid, rows_length, texts_length, laid-out}
use Rattle.laid.proofs.Layouts.{records_of}

module _ (T X : List ℕ) where
  -- 6, 7 and 8 do not refuse record j
  record Fine (j : ℕ) : Type 0 where
    pub placed : misplaced T j ≡ false
    pub inside : outside T X j ≡ false
    pub readable : not_utf8 T X j ≡ false

  readable_of : (kind q k : ℕ) (n t : List ℕ) → IsRecord T X kind q k n t → utf8 n ≡ true → utf8 t ≡ true → not_utf8 T X k ≡ false
  unfolding not_utf8
  readable_of kind q k n t r u v = rw (r.name_is, r.text_is, u, v)

  fine_of : (kind q k : ℕ) (n t : List ℕ) → (eqb kind 1 || eqb kind 2) ≡ true → IsRecord T X kind q k n t → q < k → cell T q 0 ≡ 1 → utf8 n ≡ true → utf8 t ≡ true → Fine k
  unfolding misplaced
  fine_of kind q k n t b r h e u v =
      record {
        placed = rw (r.parent_is, lt-ltb q k h, e, r.kind-is, b);
        inside = r.inside;
        readable = readable_of kind q k n t r u v;
      }

  attrs_fine : (zs : List Attr) (q k : ℕ) → LaidAttrs T X q k zs → q < k → cell T q 0 ≡ 1 → ReadableAttrs zs → (j : ℕ) → k ≤ j → j < k + length zs → Fine j
  attrs_fine [] q k l h e u j a b = absurd (omega arith)
  attrs_fine (z ∷ zs) q k l h e u j a b =
      elim (ℕ_discrete j k) [
        | yes d ↦ subst Fine (sym d) (fine_of 2 q k z.name z.value refl l.0 h e u.0 u.1)
        | no d ↦ attrs_fine zs q (suc k) l.1 (omega arith) e u.2 j (omega arith) (omega arith)
      ]

  -- no record of elements under q is refused, q being an element
  fine : (f : Forest) (q k : ℕ) → Laid T X q k f → q < k → cell T q 0 ≡ 1 → Readable f → (j : ℕ) → k ≤ j → j < k + count f → Fine j
  unfolding count
  fine empty q k l h e u j a b = absurd (omega arith)
  fine (tree n t zs ks g) q k l h e u j a b =
      elim (ℕ_discrete j k) [
        | yes d ↦ subst Fine (sym d) (fine_of 1 q k n t refl l.0 h e u.0 u.1)
        | no d ↦ elim (dec_lt j (suc k + length zs)) [
          | yes c ↦ attrs_fine zs k (suc k) l.1 (omega arith) l.0.kind-is u.2 j (omega arith) c
          | no c ↦ elim (dec_lt j (suc k + length zs + count ks)) [
            | yes i ↦ fine ks k (suc k + length zs) l.2 (omega arith) l.0.kind-is u.3 j (omega arith) i
            | no i ↦ fine g q (suc k + length zs + count ks) l.3 (omega arith) e u.4 j (omega arith) (omega arith)
          ]
        ]
      ]

-- of the records of a document of one root
module _ (n t : List ℕ) (zs : List Attr) (ks : Forest) (u : Readable (tree n t zs ks empty)) where
  abbrev f : Forest
  f = tree n t zs ks empty

  abbrev T : List ℕ
  T = rows 0 0 0 f

  abbrev X : List ℕ
  X = texts f

  -- the root is an element under itself
  at-root : not_root T ≡ false
  unfolding not_root
  at-root = let r = (laid-out f).0 in rw (r.kind-is, r.parent_is)

  all_fine : (j : ℕ) → 1 ≤ j → j < records T → Fine T X j
  all_fine j h h' =
      let l = laid-out f in
      let e : records T ≡ suc (length zs + (count ks + 0)) = unfold count in records_of f in
      elim (dec_lt j (1 + length zs)) [
        | yes c ↦ attrs_fine T X zs 0 1 l.1 (omega arith) l.0.kind-is u.2 j h c
        | no c ↦ fine T X ks 0 (1 + length zs) l.2 (omega arith) l.0.kind-is u.3 j (omega arith) (omega (arith, e, h'))
      ]

  all_inside : (j : ℕ) → j < records T → outside T X j ≡ false
  all_inside j h =
      elim (ℕ_discrete j 0) [
        | yes d ↦ subst (λ (i : ℕ). outside T X i ≡ false) (sym d) (laid-out f).0.inside
        | no d ↦ (all_fine j (omega arith) h).inside
      ]

  all_readable : (j : ℕ) → j < records T → not_utf8 T X j ≡ false
  all_readable j h =
      elim (ℕ_discrete j 0) [
        | yes d ↦ subst (λ (i : ℕ). not_utf8 T X i ≡ false) (sym d) (readable_of T X 1 0 0 n t (laid-out f).0 u.0 u.1)
        | no d ↦ (all_fine j (omega arith) h).readable
      ]

  whole : length T % 6 ≡ 0
  whole = let h = rows_length f 0 0 0 in omega (arith, h)

  refusal_root : refusal T X ≡ refuse 4 (at_root (over_limit f)) (refuse 9 (at_root (not (equal n (bytes "ApplicableHeaderTradeSettlement")))) none)
  unfolding refusal size_refusal record_refusal ragged oversized over_limit not_settlement named
  refusal_root =
      let m = records T in
      let e : m ≡ suc (length zs + (count ks + 0)) = unfold count in records_of f in
      let z : eqb m 0 ≡ false = ne_eqb m 0 (λ d. omega (arith, e, d)) in
      rw (z, eq-eqb (length T % 6) 0 whole, at-root)
      (rw (all_pass (misplaced T) (m - 1) 1 (λ k h h'. (all_fine k h (omega arith)).placed), all_pass (outside T X) (m - 0) 0 (λ k h h'. all_inside k (omega arith)), all_pass (not_utf8 T X) (m - 0) 0 (λ k h h'. all_readable k (omega arith)))
      (rw (records_of f, texts_length f, (laid-out f).0.name_is)))

-- 4 refuses a document over the limits, 9 one whose root has another name, and no other refusal does
pub refusal_of : (f : Forest) → OneRoot f → Readable f →
    refusal (rows 0 0 0 f) (texts f) ≡ refuse 4 (at_root (over_limit f)) (refuse 9 (at_root (not (equal (root_name f) (bytes "ApplicableHeaderTradeSettlement")))) none)
refusal_of f (root n t zs ks) u = refusal_root n t zs ks u

-- within the limits only 9 may refuse it
pub only_name : (f : Forest) → OneRoot f → Readable f → count f ≤ 4096 → room f ≤ 1048576 →
    refusal (rows 0 0 0 f) (texts f) ≡ refuse 9 (at_root (not (equal (root_name f) (bytes "ApplicableHeaderTradeSettlement")))) none
unfolding over_limit
only_name f o u h h' = refusal_of f o u ∙ rw (le-ltb 4096 (count f) h, le-ltb 1048576 (room f) h')

-- and a settlement is read
pub refused_by_none : (f : Forest) → OneRoot f → Readable f → count f ≤ 4096 → room f ≤ 1048576 → root_name f ≡ bytes "ApplicableHeaderTradeSettlement" → refusal (rows 0 0 0 f) (texts f) ≡ none
refused_by_none f o u h h' e = only_name f o u h h' ∙ rw (e, equal_refl (bytes "ApplicableHeaderTradeSettlement"))
