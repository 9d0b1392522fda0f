-- What the machine has of a part of a text and of the places that trimming leaves.
use mathlib.Core.Path.{◌≡◌, ◌∙◌}
use mathlib.Core.List.{List, [], ◌∷◌}
use Prim.Native.Nat.{ℕ, ◌<◌, ◌^◌}
use native.Mathlib.Omega.{arith}
use lib.Signed.{mag}
use lib.IntN.{ℤ}
use lib.ListN.{length}
use mir.Syntax.{w64}
use mir.Val.{to_z, of_z}
use mir.Facts.{to_z_pos}
use Rattle.text.specs.declared.span.Span.{Span}
use Rattle.text.specs.Span.{part_of}
use Rattle.characters.specs.Trim.{trimmed}
use Rattle.characters.proofs.Trims.{trimmed_in}
use Rattle.amount.proofs.Signs.{read64}
use Rattle.edges.specs.declared.answers.Numbers.{Numbers}
use Rattle.edges.specs.Answers.{numbers, places, first_byte, part_numbers}

-- the places that trimming leaves, as the machine has them
pub places_of :
    (mode : ℕ) (s : List ℕ) (p : Span) (r : Numbers) → p ≡ trimmed mode s → length s < 2 ^ 63 →
    r ≡ numbers (to_z w64 p.start ∷ to_z w64 p.end ∷ []) → r ≡ numbers (places (trimmed mode s))
places_of mode s p r e l q =
    let t = trimmed_in mode s p e in
    q ∙ rw (to_z_pos w64 {n = p.start} (omega arith), to_z_pos w64 {n = p.end} (omega arith), e)

-- the length of a part and its first byte, as the machine has them
pub part-numbers :
    (s : List ℕ) (start len : ℕ) (p : List ℕ) (k : ℤ) (r : Numbers) → p ≡ part_of s start len → length p < 2 ^ 63 → k ≡ first_byte p → mag k < 2 ^ 63 →
    r ≡ numbers (to_z w64 (length p) ∷ to_z w64 (of_z w64 k) ∷ []) → r ≡ numbers (part_numbers (part_of s start len))
unfolding part_numbers
part-numbers s start len p k r e l q m f = f ∙ rw (to_z_pos w64 {n = length p} l, read64 k m, q, e)
