-- Laws of rows that are put one after another. None asks for room.
use mathlib.Core.Path.{◌≡◌, refl, sym, ap, ◌∙◌}
use mathlib.Core.Bool.{Bool, true, false}
use mathlib.Core.List.{List, [], ◌∷◌, ◌++◌}
use Prim.Native.Nat.{ℕ, suc, ◌+◌, ◌-◌, ◌≤◌, ◌<◌}
use native.Mathlib.Omega.{arith}
use native.Mathlib.Decide.{dec_lt}
use borrow.Author.Tests.{le-leb, lt-leb, leb-true, leb-false}
use lib.Dec.{leb}
use lib.ListN.{length, set, length-append}
use lib.Seq.{set_out}
use Rattle.names.specs.Put.{put}
use Rattle.report.specs.Placed.{behind, Placed}
use Rattle.names.proofs.Puts.{put_none, put_put, length_put}

-- the three cases of the place behind a row
module _ (size at n : ℕ) where
  pub behind_full : size ≤ at → behind size at n ≡ at
  unfolding behind
  behind_full h = rw (le-leb size at h)

  pub behind_cut : at < size → size - at ≤ n → behind size at n ≡ size
  unfolding behind
  behind_cut h g = rw (lt-leb size at h, le-leb (size - at) n g)

  pub behind_room : at < size → n < size - at → behind size at n ≡ at + n
  unfolding behind
  behind_room h g = rw (lt-leb size at h, lt-leb (size - at) n g)

-- behind one row and then another
pub behind_behind : (size at m n : ℕ) → behind size (behind size at m) n ≡ behind size at (m + n)
behind_behind size at m n = go (leb size at) refl (leb (size - at) m) refl (leb (size - (at + m)) n) refl
  where
    go : (a : Bool) → leb size at ≡ a → (b : Bool) → leb (size - at) m ≡ b → (c : Bool) → leb (size - (at + m)) n ≡ c → behind size (behind size at m) n ≡ behind size at (m + n)
    go true e b f c g =
        let h = leb-true size at e in
        rw (behind_full size at m h, behind_full size at n h, behind_full size at (m + n) h)
    go false e true f c g =
        let h = leb-false size at e in
        let k = leb-true (size - at) m f in
        rw (behind_cut size at m h k, behind_full size size n (omega arith), behind_cut size at (m + n) h (omega arith))
    go false e false f true g =
        let h = leb-false size at e in
        let k = leb-false (size - at) m f in
        let j = leb-true (size - (at + m)) n g in
        rw (behind_room size at m h k, behind_cut size (at + m) n (omega arith) j, behind_cut size at (m + n) h (omega arith))
    go false e false f false g =
        let h = leb-false size at e in
        let k = leb-false (size - at) m f in
        let j = leb-false (size - (at + m)) n g in
        behind_behind_room h k j
      where
        behind_behind_room : at < size → m < size - at → n < size - (at + m) → behind size (behind size at m) n ≡ behind size at (m + n)
        behind_behind_room h k j = rw (behind_room size at m h k, behind_room size (at + m) n (omega arith) j, behind_room size at (m + n) h (omega arith)) (omega arith)

-- nothing is put beyond the list
put_out : {A : Type 0} → (vs l : List A) (at : ℕ) → length l ≤ at → put l at vs ≡ l
unfolding put
put_out [] l at h = refl
put_out (v ∷ vs) l at h = rw (set_out l at v h) (put_out vs l (suc at) (omega arith))

-- two places beyond the list are as good as one
put_far : {A : Type 0} → (l vs : List A) (a b : ℕ) → length l ≤ a → length l ≤ b → put l a vs ≡ put l b vs
put_far l vs a b h k = put_out vs l a h ∙ sym (put_out vs l b k)

-- a row behind another
put_behind : {A : Type 0} → (l vs ws : List A) (at : ℕ) → put (put l at vs) (behind (length l) at (length vs)) ws ≡ put l at (vs ++ ws)
put_behind l vs ws at = go (leb (length l) at) refl (leb (length l - at) (length vs)) refl ∙ put_put vs l ws at
  where
    n : length (put l at vs) ≡ length l
    n = length_put l at vs

    go : (a : Bool) → leb (length l) at ≡ a → (b : Bool) → leb (length l - at) (length vs) ≡ b → put (put l at vs) (behind (length l) at (length vs)) ws ≡ put (put l at vs) (at + length vs) ws
    go true e b f =
        let h = leb-true (length l) at e in
        rw (behind_full (length l) at (length vs) h) (put_far (put l at vs) ws at (at + length vs) (omega (arith, n)) (omega (arith, n)))
    go false e true f =
        let h = leb-false (length l) at e in
        let k = leb-true (length l - at) (length vs) f in
        rw (behind_cut (length l) at (length vs) h k) (put_far (put l at vs) ws (length l) (at + length vs) (omega (arith, n)) (omega (arith, n)))
    go false e false f = rw (behind_room (length l) at (length vs) (leb-false (length l) at e) (leb-false (length l - at) (length vs) f))

-- nothing was put
pub placed_none : {A : Type 0} → (l : List A) (at : ℕ) → Placed l at [] l at
placed_none l at = record { now = sym (put_none l at); end = go (leb (length l) at) refl }
  where
    go : (a : Bool) → leb (length l) at ≡ a → at ≡ behind (length l) at 0
    go true e = sym (behind_full (length l) at 0 (leb-true (length l) at e))
    go false e =
        let h = leb-false (length l) at e in
        sym (behind_room (length l) at 0 h (omega arith) ∙ omega arith)

-- one after the other
pub placed_then : {A : Type 0} {l l' l'' vs ws : List A} {at a b : ℕ} → Placed l at vs l' a → Placed l' a ws l'' b → Placed l at (vs ++ ws) l'' b
placed_then {A} {l} {l'} {l''} {vs} {ws} {at} {a} {b} p q = record { now = now; end = end }
  where
    size : length l' ≡ length l
    size = ap length p.now ∙ length_put l at vs

    now : l'' ≡ put l at (vs ++ ws)
    now = q.now ∙ ap (λ (m : List A). put m a ws) p.now ∙ ap (λ (c : ℕ). put (put l at vs) c ws) p.end ∙ put_behind l vs ws at

    end : b ≡ behind (length l) at (length (vs ++ ws))
    end =
        q.end ∙ ap (λ (c : ℕ). behind (length l') c (length ws)) p.end ∙ ap (λ (s : ℕ). behind s (behind (length l) at (length vs)) (length ws)) size ∙
        behind_behind (length l) at (length vs) (length ws) ∙ ap (behind (length l) at) (sym (length-append vs ws))

-- with room, the next row goes right behind
pub placed_room : {A : Type 0} {l l' vs : List A} {at a : ℕ} → Placed l at vs l' a → at + length vs ≤ length l → a ≡ at + length vs
placed_room {A} {l} {l'} {vs} {at} {a} p h = p.end ∙ go (leb (length l) at) refl (leb (length l - at) (length vs)) refl
  where
    go : (a : Bool) → leb (length l) at ≡ a → (b : Bool) → leb (length l - at) (length vs) ≡ b → behind (length l) at (length vs) ≡ at + length vs
    go true e b f = behind_full (length l) at (length vs) (leb-true (length l) at e) ∙ omega (arith, leb-true (length l) at e)
    go false e true f =
        let k = leb-false (length l) at e in
        let j = leb-true (length l - at) (length vs) f in
        behind_cut (length l) at (length vs) k j ∙ omega arith
    go false e false f = behind_room (length l) at (length vs) (leb-false (length l) at e) (leb-false (length l - at) (length vs) f)

-- numbers that were put, and the place behind them
pub placed_by : {A : Type 0} {l l' vs : List A} {at r : ℕ} → l' ≡ put l at vs → r ≡ behind (length l') at (length vs) → Placed l at vs l' r
placed_by {A} {l} {l'} {vs} {at} {r} p e = record { now = p; end = e ∙ ap (λ (s : ℕ). behind s at (length vs)) (ap length p ∙ length_put l at vs) }

-- one element: where there is room for it, and where there is none
module _ {A : Type 0} {l : List A} {at : ℕ} {v : A} where
  pub placed_one : at < length l → Placed l at (v ∷ []) (set l at v) (at + 1)
  unfolding put
  placed_one h =
      record {
        now = refl;
        end =
            elim (dec_lt 1 (length l - at)) [
              | yes q ↦ sym (behind_room (length l) at 1 h q)
              | no q ↦ omega (arith, behind_cut (length l) at 1 h (omega arith))
            ];
      }

  pub placed_past : length l ≤ at → Placed l at (v ∷ []) l at
  unfolding put
  placed_past h = record { now = sym (set_out l at v h); end = sym (behind_full (length l) at 1 h) }
