-- Laws of bytes that are put into a line one after another.
use mathlib.Core.Path.{◌≡◌, refl, ap, ◌∙◌}
use mathlib.Core.List.{List, [], ◌++◌}
use Prim.Native.Nat.{ℕ, ◌<◌, ◌^◌}
use lib.IntN.{ℤ}
use mir.Syntax.{w64}
use mir.Val.{SFits}
use mir.Facts.{to_z-of_z}
use Rattle.std.specs.Fmt as library
use Rattle.report.proofs.Placing.{placed_none, placed_then}
use Rattle.decimals.specs.Decimal.{decimal, signed}
use Rattle.decimals.specs.Puts.{Puts}
use Rattle.decimals.specs.declared.line.Line.{Line}
use Rattle.decimals.proofs.Signs.{held}
use Rattle.decimals.proofs.Spelling.{decimal_written, signed_written}

-- nothing was put
pub puts_none : (a : Line) → Puts [] a a
puts_none a = record { same = refl; placed = placed_none a.out.now a.at }

-- one after the other
pub puts_then : {s t : List ℕ} {a b c : Line} → Puts s a b → Puts t b c → Puts (s ++ t) a c
puts_then p q = record { same = q.same ∙ p.same; placed = placed_then p.placed q.placed }

-- what was put, once its bytes are known
pub puts_as : {s t : List ℕ} {a b : Line} → s ≡ t → Puts s a b → Puts t a b
puts_as e p = rw e at p

-- a number, as the library writes it
module _ {a b : Line} {s t : List ℕ} (p : Puts s a b) (e : s ≡ t) where
  pub puts_decimal : {n : ℕ} → n < 2 ^ 64 → t ≡ library.decimal n → Puts (decimal n) a b
  puts_decimal {n} h q = puts_as (e ∙ q ∙ decimal_written n h) p

  pub puts_signed : {z : ℤ} → SFits w64 z → t ≡ library.signed_decimal (held z) → Puts (signed z) a b
  puts_signed {z} f q = puts_as (e ∙ q ∙ ap library.signed_decimal (to_z-of_z f) ∙ signed_written z f.sfits) p
