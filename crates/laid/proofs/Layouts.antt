-- The table of a document has the document's tree, and its reading shows what the tree's reading is.
use mathlib.Core.Path.{◌≡◌, refl, sym, ap, ap₂, ◌∙◌, fun_ext}
use mathlib.Core.Bool.{Bool, true, false, cond}
use mathlib.Core.List.{List, [], ◌∷◌, ◌++◌, map, append-nil}
use mathlib.Core.Option
use mathlib.Core.Option.{none, some}
use Prim.Native.Nat.{ℕ, zero, suc, ◌+◌, ◌≤◌, ◌<◌}
use native.Mathlib.Omega.{arith}
use native.Mathlib.Nat.{add-zero, zero-add}
use borrow.Author.Tests.{ne_eqb}
use lib.ListN.{length}
use Rattle.text.specs.Order.{equal}
use Rattle.table.specs.Table.{records, cell, name_of, text_of, named, kin, below, kids, attrs, first_of}
use Rattle.table.proofs.Kin.{Kin, kin_is, from, below_from, not_kin}
use Rattle.settlement.specs.Document.{maybe}
use Rattle.settlement.specs.TableDoc.{name_at, text_at, own_text_at, shows, table_doc}
use Rattle.settlement.specs.Tree as Tree
use Rattle.settlement.specs.Shapes.{Reading}
use Rattle.settlement.specs.Values.{Lent}
use Rattle.settlement.specs.Settlement.{reading}
use Rattle.settlement.specs.Outcome.{shown}
use Rattle.settlement.proofs.Natural.{reading_n}
use Rattle.settlement.proofs.Trees.{hom}
use Rattle.grammar.specs.Layout.{Attr, Forest, empty, tree, count, rows, texts}
use Rattle.laid.specs.Trees.{content, attr_of, trees_of, OneRoot, root}
use Rattle.laid.proofs.Records.{IsRecord, LaidAttrs, Laid, rows_length, laid-out}

-- the records of the elements that stand side by side, from record k on
unfoldable roots : ℕ → Forest → List ℕ
roots k empty = []
roots k (tree n t zs ks g) = k ∷ roots (suc k + length zs + count ks) g

-- n records from k on
unfoldable upto : ℕ → ℕ → List ℕ
upto k zero = []
upto k (suc n) = k ∷ upto (suc k) n

module _ (T X : List ℕ) where
  from_append : (c i j a b : ℕ) → from T c i j (a + b) ≡ from T c i j a ++ from T c i (j + a) b
  unfolding from
  from_append c i j zero b = simp (zero-add, add-zero)
  from_append c i j (suc a) b = ap (from T c i j) {x = suc a + b} {y = suc (a + b)} (omega arith) ∙ go (kin T c i j) (from_append c i (suc j) a b ∙ ap (λ (n : ℕ). from T c i (suc j) a ++ from T c i n b) {x = suc j + a} {y = j + suc a} (omega arith))
    where
      go : (k : Bool) → from T c i (suc j) (a + b) ≡ from T c i (suc j) a ++ from T c i (j + suc a) b →
          cond k (j ∷ from T c i (suc j) (a + b)) (from T c i (suc j) (a + b)) ≡ cond k (j ∷ from T c i (suc j) a) (from T c i (suc j) a) ++ from T c i (j + suc a) b
      go true h = ap (λ (l : List ℕ). j ∷ l) h
      go false h = h

  from_none : (c i j m : ℕ) → kin T c i j ≡ false → from T c i (suc j) m ≡ [] → from T c i j (suc m) ≡ []
  unfolding from
  from_none c i j m e h = rw (e, h)

  from_one : (c i j m : ℕ) → kin T c i j ≡ true → from T c i j (suc m) ≡ j ∷ from T c i (suc j) m
  unfolding from
  from_one c i j m e = rw e

  from_two : (c i j a b : ℕ) → from T c i j a ≡ [] → from T c i (j + a) b ≡ [] → from T c i j (a + b) ≡ []
  from_two c i j a b h h' = from_append c i j a b ∙ rw (h, h')

  -- attributes are no elements, and no attributes of another
  attrs_elements : (i q k : ℕ) (zs : List Attr) → LaidAttrs T X q k zs → from T 1 i k (length zs) ≡ []
  attrs_elements i q k [] l = unfold from in refl
  attrs_elements i q k (a ∷ zs) l = from_none 1 i k (length zs) (not_kin T 1 i k (λ p. let e = l.0.kind-is in let e' = p.kind in omega (arith, e, e'))) (attrs_elements i q (suc k) zs l.1)

  attrs_others : (i q k : ℕ) (zs : List Attr) → i < q → LaidAttrs T X q k zs → from T 2 i k (length zs) ≡ []
  attrs_others i q k [] h l = unfold from in refl
  attrs_others i q k (a ∷ zs) h l = from_none 2 i k (length zs) (not_kin T 2 i k (λ p. let e = l.0.parent_is in let e' = p.parent in omega (arith, e, e'))) (attrs_others i q (suc k) zs h l.1)

  attrs_own : (q k : ℕ) (zs : List Attr) → q < k → LaidAttrs T X q k zs → from T 2 q k (length zs) ≡ upto k (length zs)
  unfolding from upto
  attrs_own q k [] h l = refl
  attrs_own q k (a ∷ zs) h l = rw (kin_is T 2 q k (record { kind = l.0.kind-is; parent = l.0.parent_is; earlier = h }), attrs_own q (suc k) zs (omega arith) l.1)

  -- a forest holds no child and no attribute of a record before it, but its roots are their parent's
  elements_others : (f : Forest) (i q k : ℕ) → Laid T X q k f → i < k → (i ≡ q → ⊥) → from T 1 i k (count f) ≡ []
  unfolding count
  elements_others empty i q k l h n = unfold from in refl
  elements_others (tree nm t zs ks g) i q k l h n =
      from_none 1 i k (length zs + (count ks + count g)) (not_kin T 1 i k (λ p. let e = l.0.parent_is in let e' = p.parent in n (omega (arith, e, e'))))
      (from_two 1 i (suc k) (length zs) (count ks + count g) (attrs_elements i k (suc k) zs l.1)
      (from_two 1 i (suc k + length zs) (count ks) (count g) (elements_others ks i k (suc k + length zs) l.2 (omega arith) (λ e. omega (arith, e)))
      (elements_others g i q (suc k + length zs + count ks) l.3 (omega arith) n)))

  elements_own : (f : Forest) (q k : ℕ) → Laid T X q k f → q < k → from T 1 q k (count f) ≡ roots k f
  unfolding count roots
  elements_own empty q k l h = unfold from in refl
  elements_own (tree nm t zs ks g) q k l h =
      let r : Kin T 1 q k = record { kind = l.0.kind-is; parent = l.0.parent_is; earlier = h } in
      let a = attrs_elements q k (suc k) zs l.1 in
      let b = elements_others ks q k (suc k + length zs) l.2 (omega arith) (λ e. omega (arith, e)) in
      let c = elements_own g q (suc k + length zs + count ks) l.3 (omega arith) in
      from_one 1 q k (length zs + (count ks + count g)) (kin_is T 1 q k r) ∙ ap (λ (m : List ℕ). k ∷ m)
      (from_append 1 q (suc k) (length zs) (count ks + count g) ∙ ap₂ (λ (m n : List ℕ). m ++ n) a (from_append 1 q (suc k + length zs) (count ks) (count g) ∙ ap₂ (λ (m n : List ℕ). m ++ n) b c))

  attributes_others : (f : Forest) (i q k : ℕ) → Laid T X q k f → i < k → from T 2 i k (count f) ≡ []
  unfolding count
  attributes_others empty i q k l h = unfold from in refl
  attributes_others (tree nm t zs ks g) i q k l h =
      from_none 2 i k (length zs + (count ks + count g)) (not_kin T 2 i k (λ p. let e = l.0.kind-is in let e' = p.kind in omega (arith, e, e')))
      (from_two 2 i (suc k) (length zs) (count ks + count g) (attrs_others i k (suc k) zs h l.1)
      (from_two 2 i (suc k + length zs) (count ks) (count g) (attributes_others ks i k (suc k + length zs) l.2 (omega arith))
      (attributes_others g i q (suc k + length zs + count ks) l.3 (omega arith))))

  -- the attributes of a record, by name
  first_attr : (w : List ℕ) (q k : ℕ) (zs : List Attr) → LaidAttrs T X q k zs →
      Option.map (shows X) (maybe none (λ a. some (text_at T a)) (first_of (named T X w) (upto k (length zs)))) ≡ attr_of zs w
  unfolding first_of upto attr_of
  first_attr w q k [] l = refl
  first_attr w q k (a ∷ zs) l = go (first_attr w q (suc k) zs l.1) (equal a.name w) (unfold named in ap (λ (n : List ℕ). equal n w) l.0.name_is)
    where
      go : Option.map (shows X) (maybe none (λ a. some (text_at T a)) (first_of (named T X w) (upto (suc k) (length zs)))) ≡ attr_of zs w →
          (b : Bool) → named T X w k ≡ b →
          Option.map (shows X) (maybe none (λ a. some (text_at T a)) (cond (named T X w k) (some k) (first_of (named T X w) (upto (suc k) (length zs))))) ≡ cond b (some a.value) (attr_of zs w)
      go h true e = rw e (ap (λ (t : List ℕ). some t) (unfold shows text_of in l.0.text_is))
      go h false e = rw e h

  text-of : (k : ℕ) (t : List ℕ) → text_of T X k ≡ t → cell T k 5 ≡ length t → Option.map (shows X) (own_text_at T k) ≡ content t
  unfolding own_text_at
  text-of k [] e l = rw l
  text-of k (b ∷ s) e l = rw (ne_eqb (cell T k 5) 0 (λ z. omega (arith, l, z))) (ap (λ (t : List ℕ). some t) (unfold shows text_of in e))

  below_early : (c i n : ℕ) → n ≤ suc i → below T c i n ≡ []
  unfolding below
  below_early c i zero h = refl
  below_early c i (suc j) h = rw (below_early c i j (omega arith), not_kin T c i j (λ p. let z = p.earlier in omega (arith, z)))

  split : (c k a b r : ℕ) → below T c k (suc k + (a + (b + r))) ≡ from T c k (suc k) a ++ (from T c k (suc k + a) b ++ from T c k (suc k + a + b) r)
  split c k a b r =
      below_from T c k (suc k) (a + (b + r)) ∙ ap (λ (l : List ℕ). l ++ from T c k (suc k) (a + (b + r))) (below_early c k (suc k) (omega arith)) ∙
      from_append c k (suc k) a (b + r) ∙ ap (λ (l : List ℕ). from T c k (suc k) a ++ l) (from_append c k (suc k + a) b r)

  -- one element: its own fields, and children from its records
  node_of : (d q k r : ℕ) (n t : List ℕ) (zs : List Attr) (ks : Forest) → IsRecord T X 1 q k n t → LaidAttrs T X k (suc k) zs → Laid T X k (suc k + length zs) ks →
      suc k + (length zs + (count ks + r)) ≡ records T →
      from T 1 k (suc k + length zs + count ks) r ≡ [] → from T 2 k (suc k + length zs + count ks) r ≡ [] →
      Tree.tree T X (suc d) k ≡ Tree.node n (content t) (attr_of zs) (Tree.forest (map (Tree.tree T X d) (roots (suc k + length zs) ks)))
  unfolding Tree.tree Tree.element table_doc kids attrs
  node_of d q k r n t zs ks i l f e c c' = λ j. Tree.node (name j) (text-of k t i.text_is i.size_is j) (attr j) (Tree.forest (map (Tree.tree T X d) (children j)))
    where
      name : shows X (name_at T k) ≡ n
      name = unfold shows name_of in i.name_is

      children : below T 1 k (records T) ≡ roots (suc k + length zs) ks
      children =
          ap (below T 1 k) (sym e) ∙ split 1 k (length zs) (count ks) r ∙
          ap₂ (λ (a b : List ℕ). a ++ b) (attrs_elements k k (suc k) zs l) (ap₂ (λ (a b : List ℕ). a ++ b) (elements_own ks k (suc k + length zs) f (omega arith)) c ∙ append-nil (roots (suc k + length zs) ks))

      attributes : below T 2 k (records T) ≡ upto (suc k) (length zs)
      attributes =
          ap (below T 2 k) (sym e) ∙ split 2 k (length zs) (count ks) r ∙
          ap₂ (λ (a b : List ℕ). a ++ b) (attrs_own k (suc k) zs (omega arith) l) (ap₂ (λ (a b : List ℕ). a ++ b) (attributes_others ks k k (suc k + length zs) f (omega arith)) c') ∙ append-nil (upto (suc k) (length zs))

      attr : (λ w. Option.map (shows X) (maybe none (λ a. some (text_at T a)) (first_of (named T X w) (below T 2 k (records T))))) ≡ attr_of zs
      attr = fun_ext (λ w. ap (λ (m : List ℕ). Option.map (shows X) (maybe none (λ a. some (text_at T a)) (first_of (named T X w) m))) attributes ∙ first_attr w k (suc k) zs l)

  -- what is behind a forest is under none of its records
  record Closed (k end m : ℕ) : Type 0 where
    pub elements : (i : ℕ) → k ≤ i → i < end → from T 1 i end m ≡ []
    pub attributes : (i : ℕ) → k ≤ i → i < end → from T 2 i end m ≡ []

  -- the trees of a forest's roots
  trees_back : (f : Forest) (d q k m : ℕ) → Laid T X q k f → q < k → count f ≤ d → k + count f + m ≡ records T → Closed k (k + count f) m → map (Tree.tree T X d) (roots k f) ≡ trees_of f
  unfolding count roots trees_of
  trees_back empty d q k m l h b e c = refl
  trees_back (tree n t zs ks g) zero q k m l h b e c = absurd (omega arith)
  trees_back (tree n t zs ks g) (suc d) q k m l h b e c =
      let end : k + suc (length zs + (count ks + count g)) ≡ suc k + length zs + count ks + count g = omega arith in
      let past : (i : ℕ) → k ≤ i → i < suc k + length zs + count ks + count g → from T 1 i (suc k + length zs + count ks + count g) m ≡ [] =
      λ i a a'. ap (λ (z : ℕ). from T 1 i z m) (sym end) ∙ c.elements i a (omega (arith, a')) in
      let past' : (i : ℕ) → k ≤ i → i < suc k + length zs + count ks + count g → from T 2 i (suc k + length zs + count ks + count g) m ≡ [] =
      λ i a a'. ap (λ (z : ℕ). from T 2 i z m) (sym end) ∙ c.attributes i a (omega (arith, a')) in
      let rest : (i : ℕ) → k ≤ i → i < suc k + length zs + count ks → from T 1 i (suc k + length zs + count ks) (count g + m) ≡ [] =
      λ i a a'. from_two 1 i (suc k + length zs + count ks) (count g) m (elements_others g i q (suc k + length zs + count ks) l.3 a' (λ z. omega (arith, a, z))) (past i a (omega (arith, a'))) in
      let rest' : (i : ℕ) → k ≤ i → i < suc k + length zs + count ks → from T 2 i (suc k + length zs + count ks) (count g + m) ≡ [] =
      λ i a a'. from_two 2 i (suc k + length zs + count ks) (count g) m (attributes_others g i q (suc k + length zs + count ks) l.3 a') (past' i a (omega (arith, a'))) in
      let inner = trees_back ks d k (suc k + length zs) (count g + m) l.2 (omega arith) (omega arith) (omega arith) (record { elements = λ i a a'. rest i (omega (arith, a)) a'; attributes = λ i a a'. rest' i (omega (arith, a)) a' }) in
      let outer = trees_back g (suc d) q (suc k + length zs + count ks) m l.3 (omega arith) (omega arith) (omega arith) (record { elements = λ i a a'. past i (omega (arith, a)) a'; attributes = λ i a a'. past' i (omega (arith, a)) a' }) in
      let here = node_of d q k (count g + m) n t zs ks l.0 l.1 l.2 (omega arith) (rest k (omega arith) (omega arith)) (rest' k (omega arith) (omega arith)) in
      ap₂ (λ (a : Tree.Tree) (z : List Tree.Tree). a ∷ z) (here ∙ ap (λ (z : List Tree.Tree). Tree.node n (content t) (attr_of zs) (Tree.forest z)) inner) outer

-- the records of a document
pub records_of : (f : Forest) → records (rows 0 0 0 f) ≡ count f
records_of f = let h = rows_length f 0 0 0 in omega (arith, h)

-- one root at record 0, under itself, and nothing behind it: its tree is the document's
pub layout_tree : (f : Forest) → OneRoot f → Tree.tree_of (rows 0 0 0 f) (texts f) 0 ∷ [] ≡ trees_of f
unfolding Tree.tree_of trees_of
layout_tree f (root n t zs ks) =
    let T = rows 0 0 0 f in
    let X = texts f in
    let l = laid-out f in
    let e : suc (length zs + (count ks + 0)) ≡ records T = sym (unfold count in records_of f) in
    let inner = trees_back T X ks (records T) 0 (1 + length zs) 0 l.2 (omega arith) (omega (arith, e)) (omega (arith, e)) (record { elements = λ i a a'. unfold from in refl; attributes = λ i a a'. unfold from in refl }) in
    ap (λ (z : Tree.Tree). z ∷ [])
    (node_of T X (records T) 0 0 0 n t zs ks l.0 l.1 l.2 (omega (arith, e)) (unfold from in refl) (unfold from in refl) ∙ ap (λ (z : List Tree.Tree). Tree.node n (content t) (attr_of zs) (Tree.forest z)) inner)

-- what the reader's reading of the table shows is the reading of the document's tree
pub reading-of : (L : Lent) (f : Forest) → OneRoot f → shown (texts f) (reading L (table_doc (rows 0 0 0 f) (texts f)) 0) ∷ [] ≡ map (reading L Tree.tree_doc) (trees_of f)
unfolding shown
reading-of L f o =
    let T = rows 0 0 0 f in
    let X = texts f in
    ap (λ (r : Reading (List ℕ)). r ∷ []) (sym (reading_n L (table_doc T X) Tree.tree_doc (Tree.tree_of T X) (shows X) (hom T X) 0)) ∙ ap (map (reading L Tree.tree_doc)) (layout_tree f o)
