-- In a UTF-8 text what is whole is UTF-8, and a table of sound records is refused by none of 6, 7 and 8.
use mathlib.Core.Path.{◌≡◌, refl, sym, ◌∙◌}
use mathlib.Core.Bool.{Bool, true, false, ◌&&◌, not}
use mathlib.Core.List.{List}
use mathlib.Core.Option.{none}
use Prim.Native.Nat.{ℕ, ◌+◌, ◌-◌, ◌≤◌, ◌<◌}
use native.Mathlib.Omega.{arith}
use borrow.Author.Tests.{ne_eqb}
use lib.Dec.{eqb}
use Rattle.text.specs.Span.{clipped}
use Rattle.text.proofs.Bools.{both}
use Rattle.characters.specs.Characters.{boundary, utf8}
use Rattle.characters.proofs.Boundaries.{part_utf8}
use Rattle.table.specs.Table.{records, cell, name_of, text_of, first_from}
use Rattle.refusals.specs.Refusals.{misplaced, beyond, outside, not_utf8, not_settlement, at_root, refuse, record_refusal}
use Rattle.refusals.specs.Verdicts.{whole, unsound}
use Rattle.refusals.proofs.Accepting.{none_offends, all_pass, neither, unnot}

module _ (x : List ℕ) (all : Bool) (u : all ≡ utf8 x) (v : all ≡ true) where
  pub whole_utf8 : (start len : ℕ) (b : Bool) → b ≡ whole x start len → b ≡ true → true ≡ utf8 (clipped x start len)
  unfolding whole
  whole_utf8 start len b e f =
      let k = both (not (beyond x start len)) (boundary x start && boundary x (start + len)) (sym e ∙ f) in
      let l = both (boundary x start) (boundary x (start + len)) k.1 in
      sym (part_utf8 x start len (sym u ∙ v) l.0 l.1)

  -- where all records are sound 9 is left
  module _ (t : List ℕ) (e : first_from (unsound t x) 0 (records t - 0) ≡ none) where
    -- what a sound record is
    sound : (k : ℕ) → k < records t → (whole x (cell t k 2) (cell t k 3) && whole x (cell t k 4) (cell t k 5) ≡ true) × ((not (eqb k 0) && misplaced t k) ≡ false)
    unfolding unsound
    sound k h =
        let w = whole x (cell t k 2) (cell t k 3) && whole x (cell t k 4) (cell t k 5) in
        let n = neither (not w) (not (eqb k 0) && misplaced t k) (none_offends (unsound t x) (records t - 0) 0 e k (omega arith) (omega arith)) in
        (unnot w n.0, n.1)

    part : (k : ℕ) → k < records t → (whole x (cell t k 2) (cell t k 3) ≡ true) × (whole x (cell t k 4) (cell t k 5) ≡ true)
    part k h = both (whole x (cell t k 2) (cell t k 3)) (whole x (cell t k 4) (cell t k 5)) (sound k h).0

    inside : (start len : ℕ) → whole x start len ≡ true → beyond x start len ≡ false
    unfolding whole
    inside start len w = unyes (beyond x start len) (both (not (beyond x start len)) (boundary x start && boundary x (start + len)) w).0
      where
        unyes : (p : Bool) → not p ≡ true → p ≡ false
        unyes true q = sym q
        unyes false q = refl

    pub sound_refusal : refuse 9 (at_root (not_settlement t x)) none ≡ record_refusal t x
    unfolding record_refusal outside not_utf8 name_of text_of
    sound_refusal =
        rw (
          all_pass (misplaced t) (records t - 1) 1 (λ k h h'. later k h (misplaced t k) (sound k (omega arith)).1),
          all_pass (outside t x) (records t - 0) 0 (λ k h h'. let p = part k (omega arith) in rw (inside (cell t k 2) (cell t k 3) p.0, inside (cell t k 4) (cell t k 5) p.1)),
          all_pass (not_utf8 t x) (records t - 0) 0 (λ k h h'. let p = part k (omega arith) in rw (← whole_utf8 (cell t k 2) (cell t k 3) true (sym p.0) refl, ← whole_utf8 (cell t k 4) (cell t k 5) true (sym p.1) refl)),
        )
      where
        later : (k : ℕ) → 1 ≤ k → (p : Bool) → (not (eqb k 0) && p) ≡ false → p ≡ false
        later k h p q = rw (ne_eqb k 0 (λ z. omega arith)) at q
