-- What an input line says, field by field.
use mathlib.Core.Path.{◌≡◌, refl, sym, ap, ◌∙◌}
use mathlib.Core.Bool.{Bool, true, false, cond, ◌&&◌}
use mathlib.Core.List.{List, [], ◌∷◌}
use mathlib.Core.Logic.{◌⊎◌, inl, inr}
use mathlib.Core.Option.{Option, none, some, map, bind}
use Prim.Native.Nat.{ℕ, ◌+◌, ◌≤◌, ◌<◌}
use native.Mathlib.Omega.{arith}
use borrow.Author.Tests.{le-leb, lt-leb}
use lib.ListN.{length, drop}
use Rattle.text.specs.declared.span.Span.{Span}
use Rattle.text.specs.Digits.{number, numeral_of}
use Rattle.text.specs.Span.{cut}
use Rattle.text.proofs.Bools.{not_both}
use Rattle.text.proofs.Digits.{is_numeral, no_numeral}
use Rattle.inputs.specs.Line.{parted, numeral, filled, or_none, fields_of, longest, line_of}
use Rattle.inputs.specs.Places.{line_at, space_at, field_at, spaced_at, closing, name_at, named_at, fit_at, line_in, Parsed}
use Rattle.inputs.proofs.Bytes.{name_bytes, space_inside}
use Rattle.inputs.proofs.Parting.{Behind, spaced, ended, broken, field_behind, parted_some}
use Rattle.std.specs.declared.option.Option as code
use Rattle.std.specs.Prelude.{None, Some}
use Rattle.inputs.specs.declared.input_line.Fields.{Fields}

pub long_line : (s : List ℕ) → longest < length s → Parsed s None
unfolding line_of line_in
long_line s h = record { says = rw (lt-leb (length s) longest h); is = rw (lt-leb (length s) longest h) }

-- the fields of s are those of o behind some others, which g puts there
record Led (s : List ℕ) (g : List (List ℕ) → List (List ℕ)) (o : Option (List (List ℕ))) : Type 0 where
  is : line_of s ≡ bind (map g o) fields_of

led_start : (s : List ℕ) → length s ≤ longest → Led s (λ (fs : List (List ℕ)). fs) (parted s)
unfolding line_of bind
led_start s h = record { is = rw (le-leb (length s) longest h) (go (parted s)) }
  where
    go : (o : Option (List (List ℕ))) → bind o fields_of ≡ bind (map (λ (fs : List (List ℕ)). fs) o) fields_of
    go none = refl
    go (some fs) = refl

module _ (s : List ℕ) {g : List (List ℕ) → List (List ℕ)} {o : Option (List (List ℕ))} (l : Led s g o) {p q : Bool} {w : List ℕ} where
  -- a space: its field comes to the others
  led_next : {r : Option (List (List ℕ))} → p ≡ true → Behind p q w o r → Led s (λ (fs : List (List ℕ)). g (w ∷ fs)) r
  unfolding bind
  led_next {r} t (spaced a b e) = record { is = l.is ∙ rw e (go r) }
    where
      go : (x : Option (List (List ℕ))) → bind (map g (map (λ (fs : List (List ℕ)). w ∷ fs) x)) fields_of ≡ bind (map (λ (fs : List (List ℕ)). g (w ∷ fs)) x) fields_of
      go none = refl
      go (some fs) = refl
  led_next t (ended a b e) = absurd (not_both t a)
  led_next t (broken a b e) = absurd (not_both t a)

  -- the end
  led_last : {r : Option (List (List ℕ))} → q ≡ true → Behind p q w o r → line_of s ≡ fields_of (g (w ∷ []))
  unfolding bind
  led_last t (spaced a b e) = absurd (not_both t b)
  led_last t (ended a b e) = l.is ∙ rw e
  led_last t (broken a b e) = absurd (not_both t b)

  -- no space where one must stand
  led_few : {r : Option (List (List ℕ))} → p ≡ false → fields_of (g (w ∷ [])) ≡ none → Behind p q w o r → none ≡ line_of s
  unfolding bind
  led_few t n (spaced a b e) = absurd (not_both a t)
  led_few t n (ended a b e) = sym (l.is ∙ rw e n)
  led_few t n (broken a b e) = sym (l.is ∙ rw e)

  -- no end where one must stand
  led_many : (u : List ℕ) → q ≡ false → ((f : List ℕ) (fs : List (List ℕ)) → fields_of (g (w ∷ f ∷ fs)) ≡ none) → Behind p q w o (parted u) → none ≡ line_of s
  unfolding bind
  led_many u t n (spaced a b e) = sym (l.is ∙ rw e (go (parted_some u)))
    where
      go : (parted u ≡ none) ⊎ ((f : List ℕ) × (fs : List (List ℕ)) × (parted u ≡ some (f ∷ fs))) → bind (map g (map (λ (fs : List (List ℕ)). w ∷ fs) (parted u))) fields_of ≡ none
      go (inl m) = rw m
      go (inr m) = rw m.2 (n m.0 m.1)
  led_many u t n (ended a b e) = absurd (not_both b t)
  led_many u t n (broken a b e) = sym (l.is ∙ rw e)

-- what four fields say, by the answers of the code
module _ (s : List ℕ) (m r c i : Span) where
  fit_says : line_at s (fit_at s m r c i) ≡ fields_of (cut m s ∷ cut r s ∷ cut c s ∷ cut i s ∷ [])
  unfolding fit_at fields_of
  fit_says = go (numeral (cut m s) && numeral (cut r s) && filled (cut c s) && filled (cut i s))
    where
      go : (b : Bool) → line_at s (cond b (Some (record { mode = number 0 (cut m s); rules = number 0 (cut r s); currency = name_at s c; identifier = name_at s i })) None) ≡ cond b (some (record { mode = number 0 (cut m s); rules = number 0 (cut r s); currency = or_none (cut c s); identifier = or_none (cut i s) })) none
      go true = rw (name_bytes s c, name_bytes s i)
      go false = refl

  named_none : (p : Span) → None ≡ named_at s p → filled (cut p s) ≡ false
  unfolding named_at
  named_none p e = go (filled (cut p s)) (name_at s p) e
    where
      go : (b : Bool) (q : Span) → ◌≡◌ {A = code.Option Span} None (cond b (Some q) None) → b ≡ false
      go true q e = absurd (cc)
      go false q e = refl

  named_some : (p : Span) {q : Span} → Some q ≡ named_at s p → (filled (cut p s) ≡ true) × (q ≡ name_at s p)
  unfolding named_at
  named_some p {q} e = go (filled (cut p s)) e
    where
      go : (b : Bool) {o : Span} → Some q ≡ cond b (Some o) None → (b ≡ true) × (q ≡ o)
      go true e = (refl, cc)
      go false e = absurd (cc)

  module _ {bm : List ℕ} (em : bm ≡ cut m s) where
    pub mode_unfit : None ≡ numeral_of 9 bm → None ≡ fit_at s m r c i
    unfolding fit_at numeral
    mode_unfit u = rw (← em, no_numeral 9 bm u (omega arith) refl)

    module _ {n : ℕ} (un : Some n ≡ numeral_of 9 bm) {br : List ℕ} (er : br ≡ cut r s) where
      pub rules_unfit : None ≡ numeral_of 9 br → None ≡ fit_at s m r c i
      unfolding fit_at numeral
      rules_unfit u = rw (← em, ← er, (is_numeral 9 bm un refl).0, no_numeral 9 br u (omega arith) refl)

      module _ {k : ℕ} (uk : Some k ≡ numeral_of 9 br) where
        pub currency_unfit : None ≡ named_at s c → None ≡ fit_at s m r c i
        unfolding fit_at numeral
        currency_unfit u = rw (← em, ← er, (is_numeral 9 bm un refl).0, (is_numeral 9 br uk refl).0, named_none c u)

        module _ {d : Span} (ud : Some d ≡ named_at s c) where
          pub identifier_unfit : None ≡ named_at s i → None ≡ fit_at s m r c i
          unfolding fit_at numeral
          identifier_unfit u = rw (← em, ← er, (is_numeral 9 bm un refl).0, (is_numeral 9 br uk refl).0, (named_some c ud).0, named_none i u)

          pub all_fit : {j : Span} → Some j ≡ named_at s i → Some (record { mode = n; rules = k; currency = d; identifier = j }) ≡ fit_at s m r c i
          unfolding fit_at numeral
          all_fit uj =
              rw (← em, ← er, (is_numeral 9 bm un refl).0, (is_numeral 9 br uk refl).0, (named_some c ud).0, (named_some i uj).0, (is_numeral 9 bm un refl).1, (is_numeral 9 br uk refl).1, ← (named_some c ud).1, ← (named_some i uj).1)

-- a field that a space ends, and one that none ends
spaced_none : (s : List ℕ) (i : ℕ) → None ≡ spaced_at s i → space_at s (field_at s i).end ≡ false
unfolding spaced_at
spaced_none s i e = go (space_at s (field_at s i).end) (field_at s i) e
  where
    go : (b : Bool) (q : Span) → ◌≡◌ {A = code.Option Span} None (cond b (Some q) None) → b ≡ false
    go true q e = absurd (cc)
    go false q e = refl

spaced_some : (s : List ℕ) (i : ℕ) {f : Span} → Some f ≡ spaced_at s i → (f ≡ field_at s i) × (space_at s f.end ≡ true)
unfolding spaced_at
spaced_some s i {f} e = go (space_at s (field_at s i).end) refl e
  where
    go : (b : Bool) → space_at s (field_at s i).end ≡ b → Some f ≡ cond b (Some (field_at s i)) None → (f ≡ field_at s i) × (space_at s f.end ≡ true)
    go true t e = let q : f ≡ field_at s i = cc in (q, rw q t)
    go false t e = absurd (cc)

pub spaced_inside : (s : List ℕ) (i : ℕ) {f : Span} → Some f ≡ spaced_at s i → f.end < length s
spaced_inside s i {f} e = space_inside s f.end (spaced_some s i e).1

-- the fields of a line, by the places and the answers of the code
module _ (s : List ℕ) (h : length s ≤ longest) where
  pub one_field : None ≡ spaced_at s 0 → Parsed s None
  unfolding fields_of line_in
  one_field n =
      let t = spaced_none s 0 n in
      record {
        says = led_few s (led_start s h) t refl (field_behind s 0 (field_at s 0) refl);
        is = rw (le-leb (length s) longest h, t);
      }

  module _ {m : Span} (sm : Some m ≡ spaced_at s 0) where
    em : m ≡ field_at s 0
    em = (spaced_some s 0 sm).0

    tm : space_at s m.end ≡ true
    tm = (spaced_some s 0 sm).1

    led_mode : Led s (λ (fs : List (List ℕ)). cut m s ∷ fs) (parted (drop (m.end + 1) s))
    led_mode = led_next s (led_start s h) tm (field_behind s 0 m em)

    pub two_fields : None ≡ spaced_at s (m.end + 1) → Parsed s None
    unfolding fields_of line_in
    two_fields n =
        let t = spaced_none s (m.end + 1) n in
        record {
          says = led_few s led_mode t refl (field_behind s (m.end + 1) (field_at s (m.end + 1)) refl);
          is = rw (le-leb (length s) longest h, ← em, tm, t);
        }

    module _ {r : Span} (sr : Some r ≡ spaced_at s (m.end + 1)) where
      er : r ≡ field_at s (m.end + 1)
      er = (spaced_some s (m.end + 1) sr).0

      tr : space_at s r.end ≡ true
      tr = (spaced_some s (m.end + 1) sr).1

      led_rules : Led s (λ (fs : List (List ℕ)). cut m s ∷ cut r s ∷ fs) (parted (drop (r.end + 1) s))
      led_rules = led_next s led_mode tr (field_behind s (m.end + 1) r er)

      pub three_fields : None ≡ spaced_at s (r.end + 1) → Parsed s None
      unfolding fields_of line_in
      three_fields n =
          let t = spaced_none s (r.end + 1) n in
          record {
            says = led_few s led_rules t refl (field_behind s (r.end + 1) (field_at s (r.end + 1)) refl);
            is = rw (le-leb (length s) longest h, ← em, tm, ← er, tr, t);
          }

      module _ {c : Span} (sc : Some c ≡ spaced_at s (r.end + 1)) {i : Span} (ei : i ≡ field_at s (c.end + 1)) {bi : Bool} (qi : bi ≡ closing (drop i.end s)) where
        ec : c ≡ field_at s (r.end + 1)
        ec = (spaced_some s (r.end + 1) sc).0

        tc : space_at s c.end ≡ true
        tc = (spaced_some s (r.end + 1) sc).1

        led_currency : Led s (λ (fs : List (List ℕ)). cut m s ∷ cut r s ∷ cut c s ∷ fs) (parted (drop (c.end + 1) s))
        led_currency = led_next s led_rules tc (field_behind s (r.end + 1) c ec)

        pub five_fields : bi ≡ false → Parsed s None
        unfolding fields_of line_in
        five_fields t =
            record {
              says = led_many s led_currency (drop (i.end + 1) s) (sym qi ∙ t) (λ f fs. refl) (field_behind s (c.end + 1) i ei);
              is = rw (le-leb (length s) longest h, ← em, tm, ← er, tr, ← ec, tc, ← ei, ← qi, t);
            }

        pub four_fields : bi ≡ true → {a : code.Option Fields} → a ≡ fit_at s m r c i → Parsed s a
        unfolding line_in
        four_fields t e =
            record {
              says = ap (line_at s) e ∙ fit_says s m r c i ∙ sym (led_last s led_currency (sym qi ∙ t) (field_behind s (c.end + 1) i ei));
              is = e ∙ rw (le-leb (length s) longest h, ← em, tm, ← er, tr, ← ec, tc, ← ei, ← qi, t);
            }
