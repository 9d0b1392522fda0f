-- A table maps onto the tree that it describes, whatever its numbers are.
use mathlib.Core.Path.{◌≡◌, refl, sym, ap, ap₂, ◌∙◌}
use mathlib.Core.Bool.{Bool, true, false, cond}
use mathlib.Core.List.{List, [], ◌∷◌, ◌++◌, map}
use Prim.Native.Nat.{ℕ, zero, suc, ◌+◌, ◌-◌, ◌≤◌, ◌<◌, min}
use native.Mathlib.Nat.{sub-zero, zero-sub, suc-sub-suc, zero-min, min-zero, suc-min-suc}
use native.Mathlib.Omega.{arith}
use lib.ListN.{take, drop}
use lib.Seq.{take-nil, drop-drop}
use Rattle.text.specs.Span.{clipped}
use Rattle.report.specs.Rows.{Place}
use Rattle.table.specs.Table.{records, kin, below, kids}
use Rattle.table.proofs.Kin.{kin_parts}
use Rattle.settlement.specs.TableDoc.{shows, table_doc}
use Rattle.settlement.specs.Tree.{Tree, trees, forest, tree_doc, element, tree, tree_of}
use Rattle.settlement.proofs.Maps.{map-append}
use Rattle.settlement.proofs.Natural.{Hom}

trees_forest : (l : List Tree) → trees (forest l) ≡ l
trees_forest [] = refl
trees_forest (t ∷ l) = rw (trees_forest l)

drop_take : (a l : ℕ) (s : List ℕ) → drop a (take l s) ≡ take (l - a) (drop a s)
drop_take zero l s = simp sub-zero
drop_take (suc a) zero s = simp zero-sub
drop_take (suc a) (suc l) [] = sym (take-nil (suc l - suc a))
drop_take (suc a) (suc l) (b ∷ s) = simp suc-sub-suc (drop_take a l s)

take_min : (b m : ℕ) (s : List ℕ) → take b (take m s) ≡ take (min b m) s
take_min zero m s = simp zero-min
take_min (suc b) zero s = simp min-zero
take_min (suc b) (suc m) [] = sym (take-nil (min (suc b) (suc m)))
take_min (suc b) (suc m) (c ∷ s) = simp suc-min-suc (ap (λ (l : List ℕ). c ∷ l) (take_min b m s))

module _ (t x : List ℕ) where
  -- a record has no children among those before it
  kin_late : (i j : ℕ) → j ≤ i → kin t 1 i j ≡ false
  kin_late i j l = go (kin t 1 i j) refl
    where
      go : (b : Bool) → kin t 1 i j ≡ b → b ≡ false
      go true e = let h : i < j = (kin_parts t 1 i j e).earlier in absurd (omega arith)
      go false e = refl

  below_none : (i n : ℕ) → n ≤ suc i → below t 1 i n ≡ []
  unfolding below
  below_none i zero l = refl
  below_none i (suc j) l = rw (below_none i j (omega arith), kin_late i j (omega arith))

  below_map : (g k : ℕ → Tree) (i n : ℕ) → ((m : ℕ) → i < m → g m ≡ k m) → map g (below t 1 i n) ≡ map k (below t 1 i n)
  unfolding below
  below_map g k i zero e = refl
  below_map g k i (suc j) e = simp map-append (ap₂ (λ (a b : List Tree). a ++ b) (below_map g k i j e) (go (kin t 1 i j) refl))
    where
      go : (b : Bool) → kin t 1 i j ≡ b → map g (cond b (j ∷ []) []) ≡ map k (cond b (j ∷ []) [])
      go true l = ap (λ (a : Tree). a ∷ []) (e j (kin_parts t 1 i j l).earlier)
      go false l = refl

  -- a tree is no deeper than there are records behind its own
  deep : (d i : ℕ) → records t ≤ i + d → tree t x d i ≡ tree t x (suc d) i
  unfolding tree table_doc kids
  deep zero i l = ap (λ (c : List ℕ). element t x i (forest (map (tree t x zero) c))) (sym (below_none i (records t) (omega arith)))
  deep (suc d) i l = ap (λ (c : List Tree). element t x i (forest c)) (below_map (tree t x d) (tree t x (suc d)) i (records t) (λ m h. deep d m (omega arith)))

  cuts : (p : Place) (a b : ℕ) → take b (drop a (shows x p)) ≡ shows x (record { start = p.start + a; len = min b (p.len - a) })
  unfolding shows clipped
  cuts p a b = simp (drop_take, take_min, drop-drop)

  pub hom : Hom (table_doc t x) tree_doc (tree_of t x) (shows x)
  unfolding table_doc tree_doc tree_of tree element kids
  hom =
      record {
        name = λ n. refl;
        text = λ n. refl;
        attr = λ n a. refl;
        kids = λ n. trees_forest _ ∙ below_map (tree t x (records t)) (tree t x (suc (records t))) n (records t) (λ m h. deep (records t) m (omega arith));
        bytes = λ p. refl;
        cut = cuts;
        empty = unfold shows clipped in refl;
      }
