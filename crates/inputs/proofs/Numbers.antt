-- Laws of the numbers of a record file, and the loop that puts them.
use mathlib.Core.Path.{◌≡◌, refl, sym, ap, ◌∙◌}
use mathlib.Core.Bool.{true}
use mathlib.Core.List.{List, [], ◌∷◌, map}
use Prim.Native.Nat.{ℕ, suc, ◌+◌, ◌/◌, ◌%◌, ◌^◌, ◌≤◌, ◌<◌}
use native.Mathlib.Omega.{arith}
use native.Mathlib.Nat.{zero-add}
use borrow.Author.Tests.{ltb-true}
use lib.Dec.{ltb}
use lib.ListN.{length, get_or, take, drop, set, length-map}
use lib.Seq.{take_at}
use Rattle.std.proofs.Common.{take_all}
use mir.Syntax.{w32}
use Rattle.std.specs.Int.{from_le_bytes}
use Rattle.std.specs.Simd.{first_chunks}
use Rattle.std.proofs.lemmas.List.{get_or-map}
use Rattle.text.proofs.Bools.{both}
use Rattle.names.specs.Put.{put}
use Rattle.names.proofs.Puts.{put_eq, put_turn}
use Rattle.inputs.specs.Given.{little_endian, numbers_of}
use Rattle.inputs.specs.Places.{Listed}
use Rattle.inputs.specs.Spelling.{all_fit, record_bytes}

-- a number for each four bytes
pub numbers_length : (s : List ℕ) → length (numbers_of s) ≡ length s / 4
unfolding numbers_of
numbers_length [] = refl
numbers_length (a ∷ []) = refl
numbers_length (a ∷ b ∷ []) = refl
numbers_length (a ∷ b ∷ c ∷ []) = refl
numbers_length (a ∷ b ∷ c ∷ d ∷ s) = omega (arith, numbers_length s)

-- the numbers of a record file are those that were written
byte_join : (n : ℕ) → n < 2 ^ 32 → little_endian (n % 256) (n / 256 % 256) (n / 65536 % 256) (n / 16777216) ≡ n
byte_join n h = omega arith

pub numbers_written : (ns : List ℕ) → all_fit ns ≡ true → numbers_of (record_bytes ns) ≡ ns
unfolding numbers_of record_bytes all_fit
numbers_written [] e = refl
numbers_written (n ∷ ns) e = let d = both (ltb n (2 ^ 32)) (all_fit ns) e in rw (byte_join n (ltb-true n (2 ^ 32) d.0), numbers_written ns d.1)

-- they are those that the library reads, four bytes each
pub numbers_read : (s : List ℕ) → numbers_of s ≡ map (from_le_bytes w32) (first_chunks 4 (length s / 4) s)
unfolding numbers_of
numbers_read [] = refl
numbers_read (a ∷ []) = refl
numbers_read (a ∷ b ∷ []) = refl
numbers_read (a ∷ b ∷ c ∷ []) = refl
numbers_read (a ∷ b ∷ c ∷ d ∷ s) =
    let q : length (a ∷ b ∷ c ∷ d ∷ s) / 4 ≡ suc (length s / 4) = omega arith in
    rw q (ap (λ (ns : List ℕ). little_endian a b c d ∷ ns) (numbers_read s))

-- the loop that puts the numbers of these four bytes each: a turn, and the end
module _ (l : List ℕ) (cs : List (List ℕ)) where
  pub numbers_turn : (k : ℕ) {v : ℕ} {m m' : List ℕ} (d : List ℕ) → k < length cs → m ≡ put l 0 (take k (map (from_le_bytes w32) cs)) → v ≡ from_le_bytes w32 (get_or cs k d) → m' ≡ put m k (v ∷ []) → m' ≡ put l 0 (take (k + 1) (map (from_le_bytes w32) cs))
  unfolding put
  numbers_turn k {v} {m} d h e q z = put_turn l 0 (map (from_le_bytes w32) cs) 0 (rw length-map h) e (z ∙ rw zero-add (ap (set m k) (q ∙ sym (get_or-map (from_le_bytes w32) cs k d 0 h))))

  pub numbers_end : (s : List ℕ) {k : ℕ} {m : List ℕ} → cs ≡ first_chunks 4 (length s / 4) s → length cs ≤ k → m ≡ put l 0 (take k (map (from_le_bytes w32) cs)) → Listed s l m (length cs)
  numbers_end s {k} {m} e h q =
      let are : map (from_le_bytes w32) cs ≡ numbers_of s = ap (map (from_le_bytes w32)) e ∙ sym (numbers_read s) in
      let long : length cs ≡ length (numbers_of s) = sym (length-map cs (from_le_bytes w32)) ∙ ap length are in
      let all : take k (numbers_of s) ≡ numbers_of s = take_all k (numbers_of s) (omega arith) in
      record { now = q ∙ rw (are, all) refl; many = long }

-- what stands at the front of a table in which numbers were put
module _ {s l l' : List ℕ} {n : ℕ} (f : Listed s l l' n) where
  pub listed_few : length s ≤ 6144 → n ≤ 1536
  listed_few h = omega (arith, f.many, numbers_length s)

  pub listed_table : n ≤ length l → take n l' ≡ numbers_of s
  listed_table h =
      let q = put_eq l 0 (numbers_of s) (omega (arith, f.many)) in
      rw (f.now, q) (take_at (numbers_of s) (drop (0 + length (numbers_of s)) l) n (sym f.many))
