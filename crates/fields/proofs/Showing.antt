-- Laws of texts that are printed, and of what the numbers of a row show.
use mathlib.Core.Path.{◌≡◌, sym, ap, ◌∙◌}
use mathlib.Core.Bool.{true, false}
use mathlib.Core.List.{List, [], ◌∷◌}
use mathlib.Core.Option.{Option, none, some}
use Prim.Native.Nat.{ℕ, ◌+◌, ◌≤◌, ◌<◌, ◌^◌, max}
use native.Mathlib.Numerals.{add-one}
use borrow.Author.Tests.{eq-eqb, ne_eqb}
use Rattle.std.proofs.Common.{arith}
use Rattle.std.proofs.lemmas.Bool.Decides.{nat_tests}
use lib.Signed.{mag, lt_z}
use lib.IntN.{ℤ, pos, nat_abs}
use lib.ListN.{length, get_or, drop, drop_of_length-le}
use lib.Seq.{drop-cons}
use mir.Syntax.{w64}
use mir.Val.{SFits}
use mir.Facts.{to_z-of_z}
use Rattle.text.specs.Utf8.{bytes, encode}
use Rattle.text.specs.Span.{clipped}
use Rattle.report.specs.Columns.{Column}
use Rattle.report.proofs.Cells.{carried}
use Rattle.decimals.specs.Decimal.{decimal, signed, natural}
use Rattle.decimals.specs.Puts.{Puts}
use Rattle.decimals.specs.declared.line.Line.{Line}
use Rattle.decimals.proofs.Putting.{puts_then, puts_as}
use Rattle.decimals.proofs.Signs.{held, below, above}
use Rattle.fields.specs.Line.{printed, printable, field, percentage}
use Rattle.fields.specs.Columns.{cell, text_shown, amount_shown, percent_shown, date_shown, shown}
use Rattle.fields.proofs.Parts.{PutSome, some_then, some_all}

-- the loop that prints a text, at i
module _ (s : List ℕ) (i : ℕ) where
  printed_max : (b : ℕ) → max b 0x20 ≡ printed b
  unfolding printed
  printed_max b = grind (arith, nat_tests)

  pub printable_turn : {all : List ℕ} {l m n : Line} {b : ℕ} → i < length s → PutSome all l m (printable (drop i s)) → b ≡ max (get_or s i 0) 0x20 → Puts (b ∷ []) m n → PutSome all l n (printable (drop (i + 1) s))
  unfolding printable
  printable_turn h p e q = rw add-one (some_then (rw (drop-cons s i 0, ← printed_max (get_or s i 0), ← e) at p) q)

  pub printable_end : {all : List ℕ} {l m : Line} → length s ≤ i → PutSome all l m (printable (drop i s)) → Puts all l m
  unfolding printable
  printable_end h p = some_all (rw (drop_of_length-le s h) at p)

-- what is absent
absent : {l m : Line} {s : Option (List ℕ)} → s ≡ none → Puts (0x2D ∷ []) l m → Puts (field s) l m
unfolding field bytes encode
absent e p = puts_as (sym (ap field e)) p

-- what is there
there : {t : List ℕ} {l m : Line} {s : Option (List ℕ)} → s ≡ some t → Puts t l m → Puts (field s) l m
unfolding field
there e p = puts_as (sym (ap field e)) p

module _ {z : ℤ} (f : SFits w64 z) where
  pub date_absent : {l m : Line} → lt_z (held z) (pos 0) ≡ true → Puts (0x2D ∷ []) l m → Puts (field (date_shown z)) l m
  unfolding date_shown
  date_absent e p = absent (ap date_shown (below f e).1) p

  pub date_there : {l m : Line} {k : ℕ} → lt_z (held z) (pos 0) ≡ false → k ≡ nat_abs (held z) → Puts (decimal k) l m → Puts (field (date_shown z)) l m
  unfolding date_shown
  date_there {k = k} e q p =
      let h : k ≡ (above f e).0 = q ∙ ap nat_abs (to_z-of_z f ∙ (above f e).1) in
      there (ap date_shown (above f e).1 ∙ ap (λ (n : ℕ). some (decimal n)) (sym h)) p

module _ {a b : ℤ} (f : SFits w64 a) (g : SFits w64 b) where
  module _ {k : ℕ} (e : k ≡ natural (held a)) where
    pub amount_absent : {l m : Line} → k ≡ 0 → Puts (0x2D ∷ []) l m → Puts (field (amount_shown a b)) l m
    unfolding amount_shown
    amount_absent h p =
        let n : natural a ≡ k = sym (e ∙ ap natural (to_z-of_z f)) in
        absent (rw (n, eq-eqb k 0 h)) p

    pub amount_there : {l m : Line} → (k ≡ 0 → ⊥) → Puts (signed (held b)) l m → Puts (field (amount_shown a b)) l m
    unfolding amount_shown
    amount_there h p =
        let n : natural a ≡ k = sym (e ∙ ap natural (to_z-of_z f)) in
        there (rw (n, ne_eqb k 0 h, to_z-of_z g)) p

  pub percent_absent : {l m : Line} → lt_z (held b) (pos 0) ≡ true → Puts (0x2D ∷ []) l m → Puts (field (percent_shown a b)) l m
  unfolding percent_shown
  percent_absent e p = absent (ap (percent_shown a) (below g e).1) p

  pub percent_there :
      {l m n o : Line} {k : ℕ} → lt_z (held b) (pos 0) ≡ false → Puts (signed (held a)) l m → Puts (0x2F ∷ []) m n → k ≡ nat_abs (held b) →
      Puts (decimal k) n o → Puts (field (percent_shown a b)) l o
  unfolding percent_shown percentage bytes encode
  percent_there {k = k} e p q n d =
      let h : k ≡ (above g e).0 = n ∙ ap nat_abs (to_z-of_z g ∙ (above g e).1) in
      there (ap (percent_shown a) (above g e).1 ∙ rw (to_z-of_z f, h)) (puts_then (puts_then p q) d)

  pub text_nowhere : (x : List ℕ) {l m : Line} → lt_z (held a) (pos 0) ≡ true → Puts (0x2D ∷ []) l m → Puts (field (text_shown x a b)) l m
  unfolding text_shown
  text_nowhere x e p = absent (ap (λ (y : ℤ). text_shown x y b) (below f e).1) p

  module _ (e : lt_z (held a) (pos 0) ≡ false) where
    at_start : (x : List ℕ) → text_shown x a b ≡ text_shown x (pos (above f e).0) b
    at_start x = ap (λ (y : ℤ). text_shown x y b) (above f e).1

    pub text_absent : (x : List ℕ) {l m : Line} → lt_z (held b) (pos 0) ≡ true → Puts (0x2D ∷ []) l m → Puts (field (text_shown x a b)) l m
    unfolding text_shown
    text_absent x h p = absent (at_start x ∙ ap (text_shown x (pos (above f e).0)) (below g h).1) p

    pub text_there :
        (x : List ℕ) {s : List ℕ} {l m : Line} {i n : ℕ} → lt_z (held b) (pos 0) ≡ false → i ≡ natural (held a) → n ≡ natural (held b) → s ≡ clipped x i n → Puts (printable s) l m →
        Puts (field (text_shown x a b)) l m
    unfolding text_shown natural
    text_there x {s} {l} {m} {i} {n} h u v w p =
        let c : i ≡ (above f e).0 = u ∙ ap natural (to_z-of_z f ∙ (above f e).1) in
        let d : n ≡ (above g h).0 = v ∙ ap natural (to_z-of_z g ∙ (above g h).1) in
        there (at_start x ∙ ap (text_shown x (pos (above f e).0)) (above g h).1 ∙ rw (w, c, d)) p

-- what a column shows, by its first two numbers
pub column_shown :
    (x : List ℕ) (v : List ℤ) (s : ℤ → ℤ → Option (List ℕ)) {d k : Column} {a b : ℤ} {l m : Line} → d ≡ k → shown x k v ≡ s (cell v 0) (cell v 1) → mag a < 2 ^ 63 → a ≡ cell v 0 →
    mag b < 2 ^ 63 → b ≡ cell v 1 → Puts (field (s (held a) (held b))) l m → Puts (field (shown x d v)) l m
column_shown x v s q w f e g h p = rw (q, w, ← carried f e, ← carried g h) p

-- the same behind a tab
pub tab_shown :
    (x : List ℕ) (d : Column) (row : List ℤ) (k : ℕ) {v : List ℤ} {l m n : Line} → Puts (0x9 ∷ []) l m → v ≡ drop k row → Puts (field (shown x d v)) m n →
    Puts (0x9 ∷ field (shown x d (drop k row))) l n
tab_shown x d row k p e q = rw (← e) (puts_then p q)
