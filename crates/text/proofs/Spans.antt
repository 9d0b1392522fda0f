-- Laws of the bytes of a text at a place, or at a start and a length.
use mathlib.Core.Path.{◌≡◌, sym, ◌∙◌}
use mathlib.Core.List.{List, []}
use Prim.Native.Nat.{ℕ, ◌+◌, ◌-◌, ◌≤◌, ◌<◌, min}
use native.Mathlib.Omega.{arith}
use native.Mathlib.Decide.{dec_le}
use borrow.Author.Tests.{le-leb, lt-leb}
use lib.ListN.{length, get_or, take, drop, length-take, length-drop, drop_of_length-le, get_or-eq_default}
use lib.Seq.{take_all}
use mathlib.Core.Logic.{inl, inr}
use denote.Ref.{Bor}
use Rattle.std.specs.Prelude.{Option, None, Some}
use Rattle.std.specs.Option.{unwrap_or}
use Rattle.std.specs.Slice.{IsGetRangeResult}
use Rattle.text.specs.Span.{part_of, clipped}

-- the part `&s[i..]`, as a callee is handed it
pub rest : (s : List ℕ) (i : ℕ) → take (length s - i) (drop i s) ≡ drop i s
rest s i = take_all (length s - i) (drop i s) (omega (arith, length-drop i s))

-- a byte past the end reads as 0
pub past : (s : List ℕ) (i : ℕ) → length s ≤ i → 0 ≡ get_or s i 0
past s i h = sym (get_or-eq_default s 0 h)

-- the bytes from a place on, and no more than so many of them, as `get` gives them
pub rest_of : (s : List ℕ) (start : ℕ) (r : Option (Bor (List ℕ))) (d : Bor (List ℕ)) → d.now ≡ [] → IsGetRangeResult s start (length s) r → (unwrap_or r d).now ≡ drop start s
rest_of s start None d e h = elim h.0 [ inl l ↦ e ∙ sym (drop_of_length-le s {i = start} (omega arith)) | inr l ↦ absurd (omega arith) ]
rest_of s start (Some x) d e h = h.0.2 ∙ rest s start

pub front_of : (t : List ℕ) (len : ℕ) (r : Option (Bor (List ℕ))) (d : Bor (List ℕ)) → d.now ≡ t → IsGetRangeResult t 0 len r → (unwrap_or r d).now ≡ take len t
front_of t len None d e h = elim h.0 [ inl l ↦ absurd (omega arith) | inr l ↦ e ∙ sym (take_all len t (omega arith)) ]
front_of t len (Some x) d e h = let z : len - 0 ≡ len = omega arith in h.0.2 ∙ rw z

module _ (s : List ℕ) (start len : ℕ) where
  -- inside the text both notions are the same
  pub part_clipped : start + len ≤ length s → part_of s start len ≡ clipped s start len
  unfolding part_of
  part_clipped h = rw (le-leb (start + len) (length s) h)

  -- a part by what was clipped: too short, or all of it
  module _ (t : List ℕ) (e : t ≡ clipped s start len) where
    clipped_length : length t ≡ min len (length s - start)
    unfolding clipped
    clipped_length = rw (e, length-take, length-drop)

    pub part_short : length t < len → [] ≡ part_of s start len
    unfolding part_of
    part_short h = rw (lt-leb (start + len) (length s) (omega (arith, clipped_length)))

    pub part_long : len ≤ length t → t ≡ part_of s start len
    unfolding part_of clipped
    part_long h =
        elim (dec_le (start + len) (length s)) [
          | yes l ↦ e ∙ sym (part_clipped l)
          | no l ↦
              let z : len ≡ 0 = omega (arith, clipped_length) in
              e ∙ rw (lt-leb (start + len) (length s) (omega arith), z)
        ]

-- a part to the end, where it is no longer
pub clip_long : (s : List ℕ) (start len : ℕ) → length s - start ≤ len → take (length s - start) (drop start s) ≡ clipped s start len
unfolding clipped
clip_long s start len h =
    let l = length-drop start s in
    take_all (length s - start) (drop start s) (omega (arith, l)) ∙ sym (take_all len (drop start s) (omega (arith, l)))
