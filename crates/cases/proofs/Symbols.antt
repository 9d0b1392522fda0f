-- Laws of the symbols of a text, and the turns of the loops over them.
use mathlib.Core.Path.{◌≡◌, refl, sym, ◌∙◌, ap}
use mathlib.Core.Bool.{Bool, true, false, cond, ◌&&◌}
use mathlib.Core.List.{List, [], ◌∷◌, ◌++◌, map}
use Prim.Native.Nat.{ℕ, zero, suc, pred, ◌+◌, ◌*◌, ◌≤◌, ◌<◌, min}
use native.Mathlib.Omega.{arith}
use native.Mathlib.Nat.{zero-add}
use native.Mathlib.Numerals.{add-one}
use native.Mathlib.Decide.{dec_lt}
use borrow.Author.Tests.{le-leb, ltb-true}
use lib.Dec.{ltb, eqb}
use lib.ListN.{length, get_or, drop, set, length-map, get_or-eq_default}
use lib.Seq.{take-append_seam}
use Rattle.std.specs.Prelude.{Some, None}
use Rattle.text.specs.Range.{within}
use Rattle.text.specs.Span.{part_of, clipped}
use Rattle.text.proofs.Bools.{both, not_both}
use Rattle.names.specs.Put.{put}
use Rattle.names.proofs.Puts.{length_put, put_eq}
use Rattle.cases.specs.declared.Symbol.{Symbol}
use Rattle.cases.specs.declared.Symbol.TheVariants.{Byte, Hole, Bad}
use Rattle.cases.specs.Symbols.{nibble, digit_of, escaped, symbol, size, symbols, weight, total, holes_of, byte_of, filled, Filled}

-- a byte that passes a test which 0 fails stands in the list
inside : (f : ℕ → Bool) (s : List ℕ) (k : ℕ) → f 0 ≡ false → f (get_or s k 0) ≡ true → k < length s
inside f s k z e =
    elim (dec_lt k (length s)) [
      | yes h ↦ h
      | no h ↦ absurd (not_both e (ap f (get_or-eq_default s 0 (omega arith)) ∙ z))
    ]

-- a hex digit's value, or none
module _ (b : ℕ) where
  pub digit_some : (n : ℕ) → Some n ≡ digit_of b → (n ≡ nibble b) × (n < 16)
  unfolding digit_of
  digit_some n e = go (ltb (nibble b) 16) refl e
    where
      go : (t : Bool) → ltb (nibble b) 16 ≡ t → Some n ≡ cond t (Some (nibble b)) None → (n ≡ nibble b) × (n < 16)
      go true q f = let m : n ≡ nibble b = cc in (m, omega (arith, m, ltb-true _ _ q))
      go false q f = absurd cc

  pub digit_none : None ≡ digit_of b → ltb (nibble b) 16 ≡ false
  unfolding digit_of
  digit_none e = go (ltb (nibble b) 16) e
    where
      go : (t : Bool) → None ≡ cond t (Some (nibble b)) None → t ≡ false
      go true f = absurd cc
      go false f = refl

-- a symbol is written by bytes of the list
pub Lies : List ℕ → ℕ → Type 0
Lies s n = (1 ≤ n) × (n ≤ length s)

lies_escaped : (s : List ℕ) → 0 < length s → Lies s (size (escaped (get_or s 1 0) (get_or s 2 0)))
unfolding Lies escaped nibble within
lies_escaped s h = go (eqb (get_or s 1 0) 0x2A) refl (ltb (nibble (get_or s 1 0)) 16 && ltb (nibble (get_or s 2 0)) 16) refl
  where
    go : (p : Bool) → eqb (get_or s 1 0) 0x2A ≡ p → (q : Bool) → (ltb (nibble (get_or s 1 0)) 16 && ltb (nibble (get_or s 2 0)) 16) ≡ q →
        Lies s (size (cond p Hole (cond q (Byte (nibble (get_or s 1 0) * 16 + nibble (get_or s 2 0)) 3) Bad)))
    go true e q f = let i = inside (λ (b : ℕ). eqb b 0x2A) s 1 refl e in omega arith
    go false e true f =
        let b = both (ltb (nibble (get_or s 1 0)) 16) (ltb (nibble (get_or s 2 0)) 16) f in
        let i = inside (λ (x : ℕ). ltb (nibble x) 16) s 2 refl b.1 in
        omega arith
    go false e false f = omega arith

lies : (s : List ℕ) → 0 < length s → Lies s (size (symbol s))
unfolding Lies symbol
lies s h = go (eqb (get_or s 0 0) 0x5C) (within (get_or s 0 0) 0x20 0x7E)
  where
    go : (p q : Bool) → Lies s (size (cond p (escaped (get_or s 1 0) (get_or s 2 0)) (cond q (Byte (get_or s 0 0) 1) Bad)))
    go true q = lies_escaped s h
    go false true = omega arith
    go false false = omega arith

skip : (k : ℕ) (s : List ℕ) → symbols k s ≡ symbols 0 (drop k s)
unfolding symbols
skip zero s = refl
skip (suc k) [] = refl
skip (suc k) (b ∷ s) = skip k s

-- the symbol at the front of what is left, with those behind it, and the end
pub symbols_first : (s : List ℕ) → 0 < length s → symbols 0 s ≡ symbol s ∷ symbols 0 (drop (size (symbol s)) s)
unfolding Lies symbols
symbols_first [] h = absurd (omega arith)
symbols_first (b ∷ s) h =
    let n : size (symbol (b ∷ s)) ≡ suc (pred (size (symbol (b ∷ s)))) = omega (arith, lies (b ∷ s) h) in
    ap (λ (l : List Symbol). symbol (b ∷ s) ∷ l) (skip (pred (size (symbol (b ∷ s)))) s ∙ ap (λ (k : ℕ). symbols 0 (drop k (b ∷ s))) (sym n))

pub size_first : (s : List ℕ) (n : ℕ) → 0 < length s → n ≡ size (symbol s) → (1 ≤ n) × (n ≤ length s)
unfolding Lies
size_first s n h e = let l = lies s h in omega (arith, l, e)

pub symbols_none : (s : List ℕ) → length s ≡ 0 → symbols 0 s ≡ []
unfolding symbols
symbols_none [] h = refl
symbols_none (b ∷ s) h = absurd (omega arith)

-- after n holes those of the symbols that are left
pub holes_left : ℕ → List Symbol → ℕ
holes_left n xs = min 2 (n + total xs)

pub holes_first : (s : List ℕ) → holes_of s ≡ holes_left 0 (symbols 0 s)
unfolding holes_of holes_left
holes_first s = rw zero-add

pub holes_next : (k n w m : ℕ) (xs : List Symbol) (x : Symbol) (ys : List Symbol) → k ≡ holes_left n xs → xs ≡ x ∷ ys → w ≡ weight x → m ≡ min 2 (n + w) → k ≡ holes_left m ys
unfolding holes_left total
holes_next k n w m xs x ys e q h r = let t = ap total q in omega (arith, e, t, h, r)

pub holes_last : (k n : ℕ) (xs : List Symbol) → k ≡ holes_left n xs → xs ≡ [] → n ≤ 2 → n ≡ k
unfolding holes_left total
holes_last k n xs e q h = let t = ap total q in omega (arith, e, t, h)

-- the number of symbols is at most that of bytes
symbols_fewer : (k : ℕ) (s : List ℕ) → length (symbols k s) ≤ length s
unfolding symbols
symbols_fewer k [] = omega arith
symbols_fewer zero (b ∷ s) = omega (arith, symbols_fewer (pred (size (symbol (b ∷ s)))) s)
symbols_fewer (suc k) (b ∷ s) = omega (arith, symbols_fewer k s)

-- the n first bytes stand in l, those of the symbols that are left are still to be put
pub record Filling (v : ℕ) (s l₀ l : List ℕ) (n : ℕ) (xs : List Symbol) : Type 0 where
  pub now : put l₀ 0 (filled v s) ≡ put l n (map (byte_of v) xs)
  pub many : length (filled v s) ≡ n + length xs

pub filling_start : (v : ℕ) (s l : List ℕ) → Filling v s l l 0 (symbols 0 s)
unfolding filled
filling_start v s l = record { now = refl; many = rw (length-map, zero-add) refl }

module _ (v : ℕ) (s l₀ l : List ℕ) (n : ℕ) (xs : List Symbol) (f : Filling v s l₀ l n xs) where
  -- there are no more of them than bytes of the text
  pub filling_fewer : n ≤ length s
  unfolding filled
  filling_fewer = omega (arith, f.many, length-map (symbols 0 s) (byte_of v), symbols_fewer 0 s)

  pub filling_next : (x : Symbol) (ys : List Symbol) → xs ≡ x ∷ ys → (b : ℕ) → b ≡ byte_of v x → (l' : List ℕ) → l' ≡ set l n b → Filling v s l₀ l' (n + 1) ys
  unfolding put
  filling_next x ys e b q l' r = record {
    now = f.now ∙ rw (e, r, q, add-one) refl;
    many = let t = ap length e in omega (arith, f.many, t);
  }

  pub filling_last : xs ≡ [] → Filled v s l₀ l n
  unfolding put
  filling_last e = record { now = sym (f.now ∙ rw e refl); many = let t = ap length e in omega (arith, f.many, t) }

-- with room the bytes that were put are read back
pub read_back : (v : ℕ) (s l l' : List ℕ) (r : ℕ) → Filled v s l l' r → length s ≤ length l → part_of l' 0 r ≡ filled v s
unfolding filled part_of clipped
read_back v s l l' r f h =
    let m : length (filled v s) ≤ length s = omega (arith, length-map (symbols 0 s) (byte_of v), symbols_fewer 0 s) in
    let n : length l' ≡ length l = ap length f.now ∙ length_put l 0 (filled v s) in
    let e : l' ≡ filled v s ++ drop (length (filled v s)) l = f.now ∙ put_eq l 0 (filled v s) (omega arith) ∙ rw zero-add in
    rw (le-leb (0 + r) (length l') (omega (arith, f.many)), f.many, e) (take-append_seam (filled v s) _)
