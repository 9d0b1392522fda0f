-- Trimming: the pass over the characters keeps what the definition keeps, and what it keeps lies in the text.
use mathlib.Core.Path.{◌≡◌, refl, sym, ◌∙◌, ap}
use mathlib.Core.Bool.{Bool, true, false, cond, ◌&&◌, and-false}
use mathlib.Core.List.{List, [], ◌∷◌}
use Prim.Native.Nat.{ℕ, zero, suc, ◌+◌, ◌-◌, ◌≤◌, ◌<◌}
use native.Mathlib.Omega.{arith}
use native.Mathlib.Nat.{add-zero, zero-add}
use native.Mathlib.Decide.{dec_lt}
use lib.ListN.{length, get_or, take, drop, length-drop}
use lib.Seq.{get_or-drop}
use Rattle.text.specs.declared.span.Span.{Span}
use Rattle.text.specs.Span.{cut}
use Rattle.text.proofs.Bools.{both, not_both}
use Rattle.text.proofs.Ranges.{within_range}
use Rattle.std.specs.Prelude.{Option, None, Some}
use Rattle.std.specs.Option.{unwrap_or}
use Rattle.characters.specs.Characters.{Char, Bad, Point, front, size, chars, good, all_good, utf8}
use Rattle.characters.specs.WhiteSpace.{white, trims}
use Rattle.characters.specs.Trim.{all_white, before, through, kept_of, trimmed, trim_of}
use Rattle.characters.specs.TrimWalk.{widened, keep, span_of, graphic}
use Rattle.characters.proofs.WhiteSpaces.{not_white}
use Rattle.characters.proofs.Characters.{good_from, good_start, good_end, front_one, front_whole, size_at, chars_at, chars_end, turn_chars}

abbrev span : ℕ → ℕ → Span
span a e = record { start = a; end = e }

-- the place of what is kept, as the code takes it
kept_place : (k : Option Span) → unwrap_or k (span 0 0) ≡ span_of k
kept_place None = refl
kept_place (Some p) = refl

-- nothing is kept of white characters
white_through : (mode : ℕ) (xs : List Char) → all_white mode xs ≡ true → through mode xs ≡ 0
unfolding through
white_through mode [] e = refl
white_through mode (x ∷ xs) e = rw e

-- the pass, once something is kept
keep_some : (mode : ℕ) (xs : List Char) (a e i : ℕ) → span_of (keep mode (Some (span a e)) i xs) ≡ cond (all_white mode xs) (span a e) (span a (i + through mode xs))
unfolding keep all_white through widened
keep_some mode [] a e i = refl
keep_some mode (x ∷ xs) a e i = go (trims mode x) (all_white mode xs) refl (keep_some mode xs a e (i + size x)) (keep_some mode xs a (i + size x) (i + size x))
  where
    go : (w v : Bool) → all_white mode xs ≡ v →
        span_of (keep mode (Some (span a e)) (i + size x) xs) ≡ cond v (span a e) (span a (i + size x + through mode xs)) →
        span_of (keep mode (Some (span a (i + size x))) (i + size x) xs) ≡ cond v (span a (i + size x)) (span a (i + size x + through mode xs)) →
        span_of (keep mode (cond w (Some (span a e)) (Some (span a (i + size x)))) (i + size x) xs) ≡
        cond (w && v) (span a e) (span a (i + cond (w && v) 0 (size x + through mode xs)))
    go true true q r r' = r
    go true false q r r' = r ∙ ap (span a) (omega arith)
    go false true q r r' = r' ∙ ap (span a) (omega (arith, white_through mode xs q))
    go false false q r r' = r' ∙ ap (span a) (omega arith)

-- the pass, while nothing is kept
keep_none : (mode : ℕ) (xs : List Char) (i : ℕ) → span_of (keep mode None i xs) ≡ cond (all_white mode xs) (span 0 0) (span (i + before mode xs) (i + through mode xs))
unfolding keep all_white before through widened
keep_none mode [] i = refl
keep_none mode (x ∷ xs) i = go (trims mode x) (all_white mode xs) refl (keep_none mode xs (i + size x)) (keep_some mode xs i (i + size x) (i + size x))
  where
    two : {a b e f : ℕ} → a ≡ b → e ≡ f → span a e ≡ span b f
    two p q = cc

    go : (w v : Bool) → all_white mode xs ≡ v →
        span_of (keep mode None (i + size x) xs) ≡ cond v (span 0 0) (span (i + size x + before mode xs) (i + size x + through mode xs)) →
        span_of (keep mode (Some (span i (i + size x))) (i + size x) xs) ≡ cond v (span i (i + size x)) (span i (i + size x + through mode xs)) →
        span_of (keep mode (cond w None (Some (span i (i + size x)))) (i + size x) xs) ≡
        cond (w && v) (span 0 0) (span (i + cond w (size x + before mode xs) 0) (i + cond (w && v) 0 (size x + through mode xs)))
    go true true q r r' = r
    go true false q r r' = r ∙ two (omega arith) (omega arith)
    go false true q r r' = r' ∙ two (omega arith) (omega (arith, white_through mode xs q))
    go false false q r r' = r' ∙ two (omega arith) (omega arith)

-- one pass over the characters keeps what the definition keeps
pub keep_is : (mode : ℕ) (xs : List Char) → span_of (keep mode None 0 xs) ≡ kept_of mode xs
unfolding kept_of
keep_is mode xs = simp zero-add at (keep_none mode xs 0)

-- the pass from i on, in the loop's terms: x is the character at i, n its size, w whether it is white
module _ (s : List ℕ) (mode i : ℕ) (k : Option Span) (e : keep mode None 0 (chars 0 s) ≡ keep mode k i (chars 0 (drop i s))) where
  pub keep_on :
      i < length s → (x : Char) → x ≡ front (drop i s) → (c n : ℕ) → x ≡ Point c n → (w : Bool) → w ≡ white mode c → (k' : Option Span) → k' ≡ widened k w i (i + n) →
      keep mode None 0 (chars 0 s) ≡ keep mode k' (i + n) (chars 0 (drop (i + n) s))
  unfolding keep
  keep_on h x ex c n q w ew k' ek =
      let en : n ≡ size x = sym (ap size q) in
      let et : w ≡ trims mode x = ew ∙ sym (ap (trims mode) q) in
      e ∙ ap (keep mode k i) (turn_chars s i h x ex n en) ∙ rw (ek, et, en)

  pub keep_end : utf8 s ≡ good_from s i → length s ≤ i → (p : Span) → p ≡ unwrap_or k (span 0 0) → p ≡ trimmed mode s
  unfolding keep trimmed
  keep_end g h p q = q ∙ kept_place k ∙ sym (rw (← good_end s i g h, ← keep_is mode (chars 0 s)) (ap span_of (e ∙ ap (keep mode k i) (chars_end s i h))))

-- bytes that are not UTF-8 stay as they are
pub not_trimmed : (s : List ℕ) (mode : ℕ) → false ≡ utf8 s → span 0 (length s) ≡ trimmed mode s
unfolding trimmed
not_trimmed s mode e = rw (← e)

-- the bytes of all characters are those of the list
sizes : List Char → ℕ
sizes [] = 0
sizes (x ∷ xs) = size x + sizes xs

sizes_from : (s : List ℕ) (fuel i : ℕ) → length s ≤ fuel + i → i ≤ length s → i + sizes (chars 0 (drop i s)) ≡ length s
unfolding sizes
sizes_from s zero i f h = ap (λ (l : List Char). i + sizes l) (chars_end s i (omega arith)) ∙ omega arith
sizes_from s (suc fuel) i f h =
    elim (dec_lt i (length s)) [
      | yes p ↦
          let z = size_at s i p in
          let r = sizes_from s fuel (i + size (front (drop i s))) (omega arith) z.1 in
          ap (λ (l : List Char). i + sizes l) (chars_at s i p) ∙ omega arith
      | no p ↦ ap (λ (l : List Char). i + sizes l) (chars_end s i (omega arith)) ∙ omega arith
    ]

through_le : (mode : ℕ) (xs : List Char) → through mode xs ≤ sizes xs
unfolding through sizes
through_le mode [] = omega arith
through_le mode (x ∷ xs) = go (all_white mode (x ∷ xs)) (through_le mode xs)
  where
    go : (w : Bool) → through mode xs ≤ sizes xs → cond w 0 (size x + through mode xs) ≤ size x + sizes xs
    go true r = omega arith
    go false r = omega arith

before_le : (mode : ℕ) (xs : List Char) → all_white mode xs ≡ false → before mode xs ≤ through mode xs
unfolding all_white before through
before_le mode [] e = absurd (not_both refl e)
before_le mode (x ∷ xs) e = rw e (go (trims mode x) e (before_le mode xs))
  where
    go : (w : Bool) → (w && all_white mode xs) ≡ false → (all_white mode xs ≡ false → before mode xs ≤ through mode xs) → cond w (size x + before mode xs) 0 ≤ size x + through mode xs
    go true f r = let q = r f in omega arith
    go false f r = omega arith

-- what trimming leaves lies in the text
pub trimmed_in : (mode : ℕ) (s : List ℕ) (p : Span) → p ≡ trimmed mode s → (p.start ≤ p.end) × (p.end ≤ length s)
unfolding trimmed kept_of
trimmed_in mode s p e = rw e (go (utf8 s) (all_white mode (chars 0 s)) refl)
  where
    go : (u w : Bool) → all_white mode (chars 0 s) ≡ w →
        let r : Span = cond u (cond w (span 0 0) (span (before mode (chars 0 s)) (through mode (chars 0 s)))) (span 0 (length s)) in
        (r.start ≤ r.end) × (r.end ≤ length s)
    go true true q = omega arith
    go true false q = (before_le mode (chars 0 s) q, omega (arith, through_le mode (chars 0 s), sizes_from s (length s) 0 (omega arith) (omega arith)))
    go false w q = omega arith

-- the last of the characters from i on is kept
Reaches : ℕ → List ℕ → ℕ → Type 0
Reaches mode s i = (all_white mode (chars 0 (drop i s)) ≡ false) × (i + through mode (chars 0 (drop i s)) ≡ length s)

-- so it is where the last byte, at l, is a visible character of ASCII
module _ (mode : ℕ) (s : List ℕ) (l : ℕ) (el : length s ≡ suc l) (h : 0x21 ≤ get_or s l 0) (h' : get_or s l 0 ≤ 0x7F) where
  last_white : trims mode (front (drop l s)) ≡ false
  last_white =
      let d : get_or (drop l s) 0 0 ≡ get_or s l 0 = rw (get_or-drop, add-zero) in
      rw (front_one (drop l s) (omega arith), d) (not_white mode (get_or s l 0) h h')

  reach_last : Reaches mode s l
  unfolding Reaches all_white through
  reach_last =
      let z = size_at s l (omega arith) in
      let e : chars 0 (drop l s) ≡ front (drop l s) ∷ [] = chars_at s l (omega arith) ∙ ap (λ (r : List Char). front (drop l s) ∷ r) (chars_end s (l + size (front (drop l s))) (omega arith)) in
      (ap (all_white mode) e ∙ rw last_white, ap (λ (xs : List Char). l + through mode xs) e ∙ rw last_white (omega arith))

  reach_on : (i : ℕ) → i < l → (x : Char) → x ≡ front (drop i s) → good x ≡ true → (i + size x ≤ l → Reaches mode s (i + size x)) → Reaches mode s i
  unfolding Reaches all_white through
  reach_on i p Bad ex g r = absurd (not_both g refl)
  reach_on i p (Point c n) ex g r =
      let z = length-drop i s in
      let w = front_whole (drop i s) c n (omega arith) (sym ex) in
      elim (dec_lt l (i + n)) [
        | yes q ↦
            let k : i + (n - 1) ≡ l = omega (arith, w.some, w.fits) in
            let d : get_or (drop i s) (n - 1) 0 ≡ get_or s l 0 = rw (get_or-drop, k) in
            absurd (omega (arith, w.last (omega (arith, w.some))))
        | no q ↦
            let k = r (omega arith) in
            let e = turn_chars s i (omega arith) (Point c n) ex n refl in
            (ap (all_white mode) e ∙ rw (k.0, and-false), ap (λ (xs : List Char). i + through mode xs) e ∙ rw (k.0, and-false) (omega (arith, k.1)))
      ]

  reach : (fuel i : ℕ) → l ≤ fuel + i → i ≤ l → all_good (chars 0 (drop i s)) ≡ true → Reaches mode s i
  unfolding all_good
  reach zero i f p g = let e : l ≡ i = omega arith in rw e at reach_last
  reach (suc n) i f p g =
      elim (dec_lt i l) [
        | yes q ↦
            let e : (good (front (drop i s)) && all_good (chars 0 (drop (i + size (front (drop i s))) s))) ≡ true = sym (ap all_good (chars_at s i (omega arith))) ∙ g in
            let b = both (good (front (drop i s))) (all_good (chars 0 (drop (i + size (front (drop i s))) s))) e in
            reach_on i q (front (drop i s)) refl b.0 (λ p'. reach n (i + size (front (drop i s))) (omega (arith, size_at s i (omega arith))) p' b.1)
        | no q ↦ let e : l ≡ i = omega arith in rw e at reach_last
      ]

-- a text whose first byte and last byte are visible characters of ASCII stays as it is, UTF-8 or not
pub trimmed_whole :
    (s : List ℕ) (mode : ℕ) → 0 < length s → (b b' : Bool) → b ≡ graphic (get_or s 0 0) → b ≡ true → b' ≡ graphic (get_or s (length s - 1) 0) → b' ≡ true →
    span 0 (length s) ≡ trimmed mode s
unfolding graphic trimmed kept_of before Reaches
trimmed_whole s mode h b b' e f e' f' =
    let r = within_range (get_or s 0 0) 0x21 0x7F (sym e ∙ f) in
    let r' = within_range (get_or s (length s - 1) 0) 0x21 0x7F (sym e' ∙ f') in
    let w : trims mode (front s) ≡ false = rw (front_one s r.1) (not_white mode (get_or s 0 0) r.0 r.1) in
    let o : before mode (chars 0 s) ≡ 0 = ap (before mode) (chars_at s 0 h) ∙ rw w in
    go o (utf8 s) refl (reach mode s (length s - 1) (omega arith) r'.0 r'.1 (length s) 0 (omega arith) (omega arith))
  where
    go : before mode (chars 0 s) ≡ 0 → (u : Bool) → utf8 s ≡ u → (all_good (chars 0 s) ≡ true → (all_white mode (chars 0 s) ≡ false) × (0 + through mode (chars 0 s) ≡ length s)) →
        span 0 (length s) ≡ cond u (cond (all_white mode (chars 0 s)) (span 0 0) (span (before mode (chars 0 s)) (through mode (chars 0 s)))) (span 0 (length s))
    go o true q k = let z = k (sym (good_start s) ∙ q) in let t : through mode (chars 0 s) ≡ length s = omega (arith, z.1) in rw (z.0, o, t)
    go o false q k = refl

-- the bytes at a place that trimming gave
pub cut_trimmed : (s : List ℕ) (mode : ℕ) (p : Span) → p ≡ trimmed mode s → take (p.end - p.start) (drop p.start s) ≡ trim_of mode s
unfolding trim_of cut
cut_trimmed s mode p e = rw e
