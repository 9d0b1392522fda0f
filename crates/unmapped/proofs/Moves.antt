-- Laws of numbers that move up in a list, and of a row put before them.
use mathlib.Core.Path.{◌≡◌, sym, ap, ◌∙◌}
use mathlib.Core.List.{List, [], ◌∷◌, ◌++◌}
use Prim.Native.Nat.{ℕ, zero, suc, ◌+◌, ◌-◌, ◌≤◌}
use native.Mathlib.Nat.{suc-add, add-suc, add-zero, zero-add}
use native.Mathlib.Omega.{arith}
use lib.IntN.{ℤ}
use lib.ListN.{length, take, drop, set}
use lib.Seq.{slice, length-slice}
use Rattle.std.specs.List.{copy_within}
use Rattle.names.specs.Put.{put}
use Rattle.names.proofs.Puts.{put_eq, set_put}
use Rattle.report.specs.Rows.{Place, Unmapped}
use Rattle.report.specs.Encoding.{unmapped_width, unmapped_row}
use Rattle.report.specs.Placed.{Placed}
use Rattle.report.proofs.Widths.{unmapped-width}

-- a part of a list, cut from either end first
cut_out : (f n : ℕ) (l : List ℤ) → take n (drop f l) ≡ drop f (take (f + n) l)
cut_out zero n l = rw zero-add
cut_out (suc f) zero [] = rw suc-add
cut_out (suc f) (suc n) [] = rw suc-add
cut_out (suc f) n (x ∷ l) = rw suc-add (cut_out f n l)

-- numbers copied within their list, one row on
pub moved : (l : List ℤ) (at end : ℕ) → at ≤ end → end + unmapped_width ≤ length l → copy_within l at end (at + unmapped_width) ≡ put l (at + unmapped_width) (slice at end l)
moved l at end h room =
    let n : length (slice at end l) ≡ end - at = length-slice at end l (omega arith) in
    let e : at + (end - at) ≡ end = omega arith in
    let p : take (end - at) (drop at l) ≡ slice at end l = cut_out at (end - at) l ∙ ap (λ (m : ℕ). drop at (take m l)) e in
    sym (put_eq l (at + unmapped_width) (slice at end l) (omega (arith, n)) ∙ rw (n, p))

-- a row before numbers that stand behind it
put_under : (vs ps l : List ℤ) (at : ℕ) → put (put l (at + length vs) ps) at vs ≡ put l at (vs ++ ps)
unfolding put
put_under [] ps l at = rw add-zero
put_under (v ∷ vs) ps l at =
    rw (add-suc, ← suc-add)
    (ap (λ (m : List ℤ). put m (suc at) vs) (set_put ps l at (suc at + length vs) v (omega arith)) ∙ put_under vs ps (set l at v) (suc at))

pub row_before : (u : Unmapped Place) (l ps : List ℤ) {l' l'' : List ℤ} {at r : ℕ} → l' ≡ put l (at + unmapped_width) ps → Placed l' at (unmapped_row u) l'' r → l'' ≡ put l at (unmapped_row u ++ ps)
row_before u l ps {l'} {l''} {at} p q =
    q.now ∙ rw p (rw (← unmapped-width u) (put_under (unmapped_row u) ps l at))
