-- Laws of the type code VAT.
use mathlib.Core.Path.{◌≡◌, refl, sym, ◌∙◌}
use mathlib.Core.Bool.{Bool, true, false}
use mathlib.Core.List.{List, [], ◌∷◌, map}
use Prim.Native.Nat.{ℕ}
use native.Mathlib.Omega.{arith}
use native.Mathlib.Decide.{dec_lt}
use borrow.Author.Tests.{le-leb, lt-leb, lt-ltb, le-ltb}
use mathlib.Core.Logic.{◌↔◌}
use Rattle.std.specs.Prelude.{IsTrue}
use Rattle.text.proofs.Bools.{not_both}
use Rattle.std.specs.Char.{to_ascii_lowercase}
use Rattle.text.specs.Order.{equal}
use Rattle.text.specs.Range.{within}
use Rattle.text.specs.Utf8.{bytes, encode}
use Rattle.text.proofs.Orders.{equal_is, equal_refl}
use Rattle.codes.specs.Vat.{lower, vat}

-- the library's small letters are the same
lower_letter : (c : ℕ) → to_ascii_lowercase c ≡ lower c
unfolding lower within
lower_letter c = elim (dec_lt c 65) [
  | yes h ↦ rw (lt-ltb c 65 h, lt-leb 65 c h)
  | no h ↦ elim (dec_lt c 91) [
    | yes k ↦ rw (le-ltb c 65 (omega arith), lt-ltb c 91 k, le-leb 65 c (omega arith), le-leb c 90 (omega arith))
    | no k ↦ rw (le-ltb c 65 (omega arith), le-ltb c 91 (omega arith), le-leb 65 c (omega arith), lt-leb c 90 (omega arith))
  ]
]

lower_each : (s : List ℕ) → map to_ascii_lowercase s ≡ map lower s
lower_each [] = refl
lower_each (c ∷ s) = rw (lower_letter c, lower_each s)

pub vat_is : (s : List ℕ) (r : Bool) → IsTrue r ↔ (map to_ascii_lowercase s ≡ 0x76 ∷ 0x61 ∷ 0x74 ∷ []) → r ≡ vat s
unfolding vat bytes encode
vat_is s r h = go r h (equal (map lower s) (0x76 ∷ 0x61 ∷ 0x74 ∷ [])) refl
  where
    go : (r : Bool) → IsTrue r ↔ (map to_ascii_lowercase s ≡ 0x76 ∷ 0x61 ∷ 0x74 ∷ []) → (b : Bool) → equal (map lower s) (0x76 ∷ 0x61 ∷ 0x74 ∷ []) ≡ b → r ≡ b
    go true h true e = refl
    go false h false e = refl
    go true h false e = let q : map lower s ≡ 0x76 ∷ 0x61 ∷ 0x74 ∷ [] = sym (lower_each s) ∙ h.0 refl in absurd (not_both (rw q (equal_refl (0x76 ∷ 0x61 ∷ 0x74 ∷ []))) e)
    go false h true e = h.1 (lower_each s ∙ equal_is (map lower s) (0x76 ∷ 0x61 ∷ 0x74 ∷ []) e)
