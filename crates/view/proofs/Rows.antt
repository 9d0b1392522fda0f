-- A view of the two numbers that a row has of a text: it shows what the text's place shows, and nothing is there where the text is absent.
use mathlib.Core.Path.{◌≡◌, refl, ap}
use mathlib.Core.Bool.{Bool, true, false, cond}
use mathlib.Core.List.{List, []}
use mathlib.Core.Option.{none}
use mathlib.Core.Logic.{inl, inr}
use Prim.Native.Nat.{ℕ, ◌+◌, ◌≤◌, ◌<◌}
use native.Mathlib.Decide.{dec_le}
use native.Mathlib.Omega.{arith}
use borrow.Author.Tests.{le-leb, ne_eqb}
use lib.Dec.{eqb}
use lib.ListN.{length}
use Rattle.text.specs.Span.{part_of, clipped}
use Rattle.text.proofs.Spans.{part_clipped}
use Rattle.report.specs.Rows.{Place}
use Rattle.report.specs.Encoding.{tidy, place_start, place_length, text_start, text_length}
use Rattle.settlement.specs.TableDoc.{shows}
use Rattle.settlement.specs.Inside.{Inside}
use Rattle.view.specs.View.{lies, shown_at}

-- it is there, and shows what the place shows
abbrev pub Shown : List ℕ → Place → Type 0
Shown x p = (lies x (place_start p) (place_length p) ≡ true) × (shown_at x (place_start p) (place_length p) ≡ shows x p)

empty : (x : List ℕ) (p : Place) → p.len ≡ 0 → Shown x p
unfolding lies shown_at tidy shows part_of clipped
empty x p e =
    let h = le-leb 0 (length x) (omega arith) in
    rw e (h, ap (λ (t : Bool). cond {A = List ℕ} t [] []) h)

filled : (x : List ℕ) (p : Place) → 0 < p.len → p.start + p.len ≤ length x → Shown x p
unfolding lies shown_at tidy shows
filled x p l h =
    let e : eqb p.len 0 ≡ false = ne_eqb p.len 0 (λ e. absurd (omega (arith, e, l))) in
    rw e (le-leb (p.start + p.len) (length x) h, part_clipped x p.start p.len h)

-- a text of a reading, empty or inside the lent text
pub place_shown : (x : List ℕ) (p : Place) → Inside x p → Shown x p
place_shown x p (inl e) = empty x p e
place_shown x p (inr h) = elim (dec_le 1 p.len) [ yes l ↦ filled x p (omega arith) h | no l ↦ empty x p (omega arith) ]

-- an absent one is apart from an empty one: it is not there
pub absent_shown : (x : List ℕ) → (lies x (text_start none) (text_length none) ≡ false) × (shown_at x (text_start none) (text_length none) ≡ [])
unfolding lies shown_at
absent_shown x = (refl, refl)
