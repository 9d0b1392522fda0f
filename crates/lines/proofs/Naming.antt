-- Laws of paths and terms that are put by their numbers.
use mathlib.Core.Path.{◌≡◌, sym, ap, ◌∙◌}
use mathlib.Core.Bool.{Bool, true, false}
use mathlib.Core.List.{List, [], ◌∷◌}
use Prim.Native.Nat.{ℕ}
use borrow.Author.Tests.{eq-eqb, ne_eqb}
use lib.Dec.{eqb}
use lib.Signed.{lt_z}
use lib.IntN.{ℤ, pos, nat_abs}
use lib.ListN.{length}
use mir.Syntax.{w64}
use mir.Val.{SFits}
use mir.Facts.{to_z-of_z}
use Rattle.text.specs.Utf8.{bytes, encode}
use Rattle.text.specs.Span.{clipped}
use Rattle.labels.specs.PathText.{path_text_at}
use Rattle.labels.specs.TermName.{term_group_at, term_name_at}
use Rattle.labels.specs.ParentName.{parent_name_at}
use Rattle.report.specs.Placed.{behind, Placed}
use Rattle.decimals.specs.Decimal.{decimal, natural}
use Rattle.decimals.specs.Puts.{Puts}
use Rattle.decimals.specs.declared.line.Line.{Line}
use Rattle.decimals.proofs.Putting.{puts_none, puts_then, puts_as}
use Rattle.decimals.proofs.Signs.{held, below, above}
use Rattle.fields.specs.Line.{printable, field}
use Rattle.lines.specs.Labels.{bracketed, group_text, term_text, term_shown, unmapped_path, name_shown}

-- bytes put into the list of the line, and its place set behind so many: so an edit that puts them elsewhere, with the
-- place right, is refused for where they went
pub puts_row : {s : List ℕ} {l m : Line} {r : ℕ} → m.out.ghost_name ≡ l.out.ghost_name → Placed l.out.now l.at s m.out.now r → length m.out.now ≡ length l.out.now → m.at ≡ behind (length m.out.now) l.at (length s) → Puts s l m
puts_row {s} {l} same p h e = record { same = same; placed = record { now = p.now; end = e ∙ ap (λ (n : ℕ). behind n l.at (length s)) h } }

natural_held : {z : ℤ} {k : ℕ} → SFits w64 z → k ≡ natural (held z) → k ≡ natural z
natural_held f e = e ∙ ap natural (to_z-of_z f)

module _ {z : ℤ} (f : SFits w64 z) where
  pub path_put : {s b : List ℕ} {l m n : Line} {k : ℕ} → Puts (0x9 ∷ []) l m → k ≡ natural (held z) → s ≡ path_text_at k → b ≡ s → Puts b m n → Puts (0x9 ∷ path_text_at (natural z)) l n
  path_put p e c d q = puts_then p (puts_as (d ∙ c ∙ ap path_text_at (natural_held f e)) q)

  pub index_none : (l : Line) → lt_z (held z) (pos 0) ≡ true → Puts (bracketed z) l l
  unfolding bracketed
  index_none l e = puts_as (sym (ap bracketed (below f e).1)) (puts_none l)

  pub index_put :
      {l m n o : Line} {k : ℕ} → lt_z (held z) (pos 0) ≡ false → Puts (0x5B ∷ []) l m → k ≡ nat_abs (held z) → Puts (decimal k) m n → Puts (0x5D ∷ []) n o → Puts (bracketed z) l o
  unfolding bracketed bytes encode
  index_put {k = k} e p c d q =
      let h : k ≡ (above f e).0 = c ∙ ap nat_abs (to_z-of_z f ∙ (above f e).1) in
      puts_as (rw h (sym (ap bracketed (above f e).1))) (puts_then (puts_then p d) q)

  -- a term with its group, or alone
  module _ {g s : List ℕ} {r : Bool} (c : s ≡ g) (e : r ≡ eqb (length s) 0) where
    pub group_none : (l : Line) → r ≡ true → Puts (group_text g z) l l
    unfolding group_text
    group_none l h = puts_as (rw (← c, ← e, h)) (puts_none l)

    pub group_put : {b : List ℕ} {l m n o : Line} → r ≡ false → b ≡ s → Puts b l m → Puts (bracketed (held z)) m n → Puts (0x2F ∷ []) n o → Puts (group_text g z) l o
    unfolding group_text bytes encode
    group_put h d p q i = rw (← c, ← e, h, ← d) (puts_then (puts_then p (puts_as (ap bracketed (to_z-of_z f)) q)) i)

  pub term_put : (g : List ℕ) {t s b : List ℕ} {l m n : Line} → Puts (group_text g (held z)) l m → s ≡ t → b ≡ s → Puts b m n → Puts (term_text g z t) l n
  unfolding term_text
  term_put g p c d q = puts_then (puts_as (ap (group_text g) (to_z-of_z f)) p) (puts_as (d ∙ c) q)

module _ {a b : ℤ} (f : SFits w64 a) (g : SFits w64 b) {k : ℕ} (e : k ≡ natural (held a)) {l m n : Line} (p : Puts (0x9 ∷ []) l m) where
  pub term_none : k ≡ 0 → Puts (0x2D ∷ []) m n → Puts (0x9 ∷ field (term_shown (natural a) b)) l n
  unfolding term_shown field bytes encode
  term_none h q = rw (← natural_held f e, eq-eqb k 0 h) (puts_then p q)

  pub term_there : (k ≡ 0 → ⊥) → Puts (term_text (term_group_at k) (held b) (term_name_at k)) m n → Puts (0x9 ∷ field (term_shown (natural a) b)) l n
  unfolding term_shown field
  term_there h q = rw (← natural_held f e, ne_eqb k 0 h) (puts_then p (rw (to_z-of_z g) at q))

-- an unmapped element's path
pub unmapped_put :
    {p a b : ℤ} → SFits w64 p → SFits w64 a → SFits w64 b → (x : List ℕ) {t u v : List ℕ} {l m n o q : Line} {k s e : ℕ} → Puts (0x9 ∷ []) l m → k ≡ natural (held p) → u ≡ parent_name_at k → v ≡ u → Puts v m n →
    Puts (0x2F ∷ []) n o → s ≡ natural (held a) → e ≡ natural (held b) → t ≡ clipped x s e → Puts (printable t) o q →
    Puts (0x9 ∷ unmapped_path (natural p) (name_shown x a b)) l q
unfolding unmapped_path name_shown bytes encode
unmapped_put f g h x d c i j y z start end cut name =
    rw (← natural_held f c, ← natural_held g start, ← natural_held h end, ← cut, ← i, ← j) (puts_then (puts_then (puts_then d y) z) name)
