-- Laws of white space.
use mathlib.Core.Path.{◌≡◌, refl}
use mathlib.Core.Bool.{Bool, true, false, cond, ◌||◌, or_self}
use Prim.Native.Nat.{ℕ, ◌≤◌, suc}
use native.Mathlib.Omega.{arith}
use borrow.Author.Tests.{eqb-true, eqb-false}
use lib.Dec.{eqb}
use Rattle.text.specs.Range.{within}
use Rattle.text.proofs.Ranges.{within_range, within_yes, within_below, within_above}
use Rattle.characters.specs.WhiteSpace.{in_ranges, white_spaces, white_space, blank, white}

-- nothing from 21 to 84 is White_Space
pub not_space : (c : ℕ) → 0x21 ≤ c → c ≤ 0x84 → white_space c ≡ false
unfolding white_space white_spaces in_ranges
not_space c h h' =
    rw (within_above c 0x9 0xD (omega arith), within_above c 0x20 0x20 (omega arith), within_below c 0x85 0x85 (omega arith), within_below c 0xA0 0xA0 (omega arith), within_below c 0x1680 0x1680 (omega arith))
    (rw (within_below c 0x2000 0x200A (omega arith), within_below c 0x2028 0x2028 (omega arith), within_below c 0x2029 0x2029 (omega arith), within_below c 0x202F 0x202F (omega arith), within_below c 0x205F 0x205F (omega arith), within_below c 0x3000 0x3000 (omega arith)))

module _ (c : ℕ) where
  -- a range of one or two numbers has its ends alone
  within_ends : (first last : ℕ) → first ≤ last → last ≤ suc first → within c first last ≡ (eqb c first || eqb c last)
  within_ends first last h h' = go (eqb c first) (eqb c last) refl refl
    where
      outside : (b : Bool) → within c first last ≡ b → (c ≡ first → ⊥) → (c ≡ last → ⊥) → within c first last ≡ false
      outside true e f g = let r = within_range c first last e in absurd (omega (arith, r.0, r.1))
      outside false e f g = e

      go : (p q : Bool) → eqb c first ≡ p → eqb c last ≡ q → within c first last ≡ (p || q)
      go true q e f = let k = eqb-true c first e in within_yes c first last (omega arith) (omega arith)
      go false true e f = let k = eqb-true c last f in within_yes c first last (omega arith) (omega arith)
      go false false e f = outside (within c first last) refl (eqb-false c first e) (eqb-false c last f)

  -- the four blanks as three ranges
  pub blank_ranges : blank c ≡ (within c 0x9 0xA || within c 0xD 0xD || within c 0x20 0x20)
  unfolding blank
  blank_ranges = rw (within_ends 0x9 0xA (omega arith) (omega arith), within_ends 0xD 0xD (omega arith) (omega arith), within_ends 0x20 0x20 (omega arith) (omega arith), or_self (eqb c 0xD), or_self (eqb c 0x20))

-- nothing from 21 on is blank
pub not_blank : (c : ℕ) → 0x21 ≤ c → blank c ≡ false
not_blank c h = rw (blank_ranges c, within_above c 0x9 0xA (omega arith), within_above c 0xD 0xD (omega arith), within_above c 0x20 0x20 (omega arith))

module _ (mode c : ℕ) where
  -- mode 0 asks for White_Space, any other for what is blank
  pub white_unicode : (b : Bool) → eqb mode 0 ≡ true → b ≡ white_space c → b ≡ white mode c
  unfolding white
  white_unicode b e f = rw (e, f)

  pub white_schema : (b : Bool) → eqb mode 0 ≡ false → b ≡ blank c → b ≡ white mode c
  unfolding white
  white_schema b e f = rw (e, f)

-- no mode trims a visible character of ASCII
pub not_white : (mode c : ℕ) → 0x21 ≤ c → c ≤ 0x7F → white mode c ≡ false
unfolding white
not_white mode c h h' = rw (not_space c h (omega arith), not_blank c h) (go (eqb mode 0))
  where
    go : (p : Bool) → cond p false false ≡ false
    go true = refl
    go false = refl
