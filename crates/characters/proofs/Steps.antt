-- Laws of a pass over bytes in steps (specs/Utf8Walk.antt): ASCII is UTF-8, and a step goes on or stops as UTF-8 says.
use mathlib.Core.Path.{◌≡◌, refl, sym, ◌∙◌, ap}
use mathlib.Core.Bool.{Bool, true, false, cond, not, ◌&&◌}
use mathlib.Core.List.{List, [], ◌∷◌}
use Prim.Native.Nat.{ℕ, zero, suc, ◌+◌, ◌-◌, ◌%◌, ◌≤◌, ◌<◌}
use native.Mathlib.Omega.{arith}
use native.Mathlib.Decide.{dec_lt}
use borrow.Author.Tests.{leb-true, ltb-true, le-leb, lt-leb, ne_eqb}
use lib.Dec.{ltb, leb, eqb}
use lib.ListN.{length, take, drop, length-drop}
use lib.Seq.{drop-drop}
use Rattle.text.proofs.Bools.{both}
use Rattle.characters.specs.Characters.{Char, Bad, Point, front, size, chars, good, all_good, utf8, ascii}
use Rattle.characters.specs.Utf8Walk.{plain, step, passes, stepwise}
use Rattle.characters.proofs.Characters.{front_one, good_from, turn, turn_chars, chars_end}

-- ASCII is UTF-8
ascii_good : (s : List ℕ) → ascii s ≡ true → all_good (chars 0 s) ≡ true
unfolding ascii chars all_good
ascii_good [] e = refl
ascii_good (b ∷ s) e =
    let p = both (ltb b 0x80) (ascii s) e in
    rw (front_one (b ∷ s) (omega (arith, ltb-true b 0x80 p.0))) (ascii_good s p.1)

pub ascii_utf8 : (s : List ℕ) → (b : Bool) → b ≡ ascii s → b ≡ true → true ≡ utf8 s
unfolding utf8
ascii_utf8 s b q f = sym (ascii_good s (sym q ∙ f))

-- a block of ASCII is passed at once
ascii_pass : (k : ℕ) (s : List ℕ) → k ≤ length s → ascii (take k s) ≡ true → all_good (chars 0 s) ≡ all_good (chars 0 (drop k s))
unfolding ascii chars all_good
ascii_pass zero s h e = refl
ascii_pass (suc k) [] h e = refl
ascii_pass (suc k) (b ∷ s) h e =
    let p = both (ltb b 0x80) (ascii (take k s)) e in
    rw (front_one (b ∷ s) (omega (arith, ltb-true b 0x80 p.0))) (ascii_pass k s (omega arith) p.1)

pub plain-is : (s : List ℕ) (i : ℕ) → eqb (i % 16) 0 ≡ true → 16 ≤ length s - i → (b : Bool) → b ≡ ascii (take (i + 16 - i) (drop i s)) → b ≡ plain s i
unfolding plain
plain-is s i e h b q =
    let m : i + 16 - i ≡ 16 = omega arith in
    q ∙ rw (m, e, le-leb 16 (length s - i) h)

plain_passes : (s : List ℕ) (i : ℕ) → plain s i ≡ true → (i + 16 ≤ length s) × (good_from s i ≡ good_from s (i + 16))
unfolding plain
plain_passes s i e =
    let k = both (eqb (i % 16) 0) (leb 16 (length s - i) && ascii (take 16 (drop i s))) e in
    let k' = both (leb 16 (length s - i)) (ascii (take 16 (drop i s))) k.1 in
    let l = leb-true 16 (length s - i) k'.0 in
    (omega arith, ascii_pass 16 (drop i s) (omega (arith, length-drop i s)) k'.1 ∙ ap (λ (r : List ℕ). all_good (chars 0 r)) (drop-drop 16 i s))

-- a step over characters at i, by n octets
Stepped : List ℕ → ℕ → ℕ → Type 0
Stepped s i n = (i + n ≤ length s) × ((n ≡ 0 → good_from s i ≡ false) × ((n ≡ 0 → ⊥) → good_from s i ≡ good_from s (i + n)))

stepped : (s : List ℕ) (i : ℕ) → i < length s → (n : ℕ) → n ≡ step s i → Stepped s i n
unfolding Stepped step all_good
stepped s i h n en = go (plain s i) refl (front (drop i s)) refl en
  where
    go : (p : Bool) → plain s i ≡ p → (x : Char) → x ≡ front (drop i s) → n ≡ cond p 16 (cond (good x) (size x) 0) → Stepped s i n
    go true e x ex q = let k = plain_passes s i e in (omega arith, (λ z. absurd (omega arith), λ z. rw q k.1))
    go false e Bad ex q = (omega arith, (λ z. ap all_good (turn_chars s i h Bad ex 1 refl), λ z. absurd (z q)))
    go false e (Point c m) ex q =
        let k = turn s i h (Point c m) ex n q in
        (k.1, (λ z. absurd (omega arith), λ z. ap all_good (turn_chars s i h (Point c m) ex n q)))

module _ (s : List ℕ) (i : ℕ) (h : i < length s) (n : ℕ) (en : n ≡ step s i) where
  pub step_stop : utf8 s ≡ good_from s i → n ≡ 0 → false ≡ utf8 s
  unfolding Stepped
  step_stop e z = sym (e ∙ (stepped s i h n en).1.0 z)

  pub step_on : utf8 s ≡ good_from s i → (n ≡ 0 → ⊥) → utf8 s ≡ good_from s (i + n)
  unfolding Stepped
  step_on e z = e ∙ (stepped s i h n en).1.1 z

-- the pass answers what UTF-8 says
passes_good : (s : List ℕ) (n i : ℕ) → length s ≤ i + n → i ≤ length s → passes s n i ≡ good_from s i
unfolding passes Stepped all_good
passes_good s zero i h k = rw (le-leb (length s) i (omega arith)) (sym (ap all_good (chars_end s i (omega arith))))
passes_good s (suc n) i h k = elim (dec_lt i (length s)) [
  | yes q ↦ rw (lt-leb (length s) i q) (go (step s i) (stepped s i q (step s i) refl) (λ m. passes_good s n (i + suc m)))
  | no q ↦ rw (le-leb (length s) i (omega arith)) (sym (ap all_good (chars_end s i (omega arith))))
]
  where
    go : (m : ℕ) → Stepped s i m → ((m : ℕ) → length s ≤ i + suc m + n → i + suc m ≤ length s → passes s n (i + suc m) ≡ good_from s (i + suc m)) → (not (eqb m 0) && passes s n (i + m)) ≡ good_from s i
    go zero p f = sym (p.1.0 refl)
    go (suc m) p f = rw (ne_eqb (suc m) 0 (λ z. absurd (omega arith))) (f m (omega arith) p.0 ∙ sym (p.1.1 (λ z. absurd (omega arith))))

pub stepwise_utf8 : (s : List ℕ) → utf8 s ≡ stepwise s
unfolding utf8
stepwise_utf8 s = sym (passes_good s (length s) 0 (omega arith) (omega arith))
