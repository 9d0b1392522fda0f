-- What a table holds of elements side by side, and of those whose rows were put into it.
use mathlib.Core.Path.{◌≡◌, refl, ◌∙◌, subst}
use mathlib.Core.List.{List, [], ◌++◌, append_assoc}
use Prim.Native.Nat.{ℕ, suc, ◌+◌, ◌*◌, ◌≤◌}
use native.Mathlib.Nat.{add-zero}
use native.Mathlib.Omega.{arith}
use lib.ListN.{length, length-append, drop}
use lib.Seq.{get_or-append-add}
use Rattle.names.specs.Put.{put}
use Rattle.names.proofs.Puts.{put_eq}
use Rattle.grammar.specs.Layout.{Forest, empty, tree, count, attr_room, room, row, attr_rows, rows}
use Rattle.rooms.specs.Joined.{then_l}
use Rattle.rooms.specs.Holds.{Holds}
use Rattle.rooms.proofs.Fills.{length_attr_rows, length_rows}

pub holds_then : (T : List ℕ) (k : ℕ) (f g : Forest) → Holds T k (then_l f g) → Holds T k f × Holds T (k + count f) g
unfolding then_l count Holds
holds_then T k empty g h = (tt, rw (add-zero k) h)
holds_then T k (tree n t zs ks f) g h =
    let i = suc k + length zs + count ks in
    let r = holds_then T i f g h.2 in
    let a : i + count f ≡ k + suc (length zs + (count ks + count f)) = omega arith in
    ((h.0, h.1, r.0), subst (λ (j : ℕ). Holds T j g) a r.1)

-- rows that stand in a table from record k on
pub holds_at : (T a b : List ℕ) (q k p : ℕ) (f : Forest) → length a ≡ k * 6 → T ≡ a ++ (rows q k p f ++ b) → Holds T k f
unfolding rows Holds
holds_at T a b q k p empty h e = tt
holds_at T a b q k p (tree n t zs ks g) h e =
    let r = row 1 q p n t in
    let z = attr_rows k (p + length n + length t) zs in
    let u = rows k (suc k + length zs) (p + length n + length t + attr_room zs) ks in
    let v = rows q (suc k + length zs + count ks) (p + length n + length t + attr_room zs + room ks) g in
    let lz : length z ≡ 6 * length zs = length_attr_rows k (p + length n + length t) zs in
    let lu : length u ≡ 6 * count ks = length_rows k (suc k + length zs) (p + length n + length t + attr_room zs) ks in (
      rw (e, ← h) (get_or-append-add a _ 5 0),
      holds_at T (a ++ (r ++ z)) (v ++ b) k (suc k + length zs) (p + length n + length t + attr_room zs) ks (simp length-append (omega arith)) (e ∙ first a r z u v b),
      holds_at T (a ++ (r ++ (z ++ u))) b q (suc k + length zs + count ks) (p + length n + length t + attr_room zs + room ks) g (simp length-append (omega arith)) (e ∙ second a r z u v b),
    )
  where
    first : (a r z u v b : List ℕ) → a ++ ((r ++ (z ++ (u ++ v))) ++ b) ≡ (a ++ (r ++ z)) ++ (u ++ (v ++ b))
    first a r z u v b = simp append_assoc

    second : (a r z u v b : List ℕ) → a ++ ((r ++ (z ++ (u ++ v))) ++ b) ≡ (a ++ (r ++ (z ++ u))) ++ (v ++ b)
    second a r z u v b = simp append_assoc

-- a table into which the rows were put holds them
pub rows_hold : (T : List ℕ) (f : Forest) → 6 * count f ≤ length T → Holds (put T 0 (rows 0 0 0 f)) 0 f
rows_hold T f h =
    let l = length_rows 0 0 0 f in
    holds_at (put T 0 (rows 0 0 0 f)) [] (drop (0 + length (rows 0 0 0 f)) T) 0 0 0 f refl (put_eq T 0 (rows 0 0 0 f) (omega arith))
