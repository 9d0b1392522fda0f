-- The grammar of xs:decimal as productions (XML Schema part 2, 3.2.3.1): decimal ::= sign digit* point, at least one digit in all. `spelled_decimal` and `decimal_spelled` (proofs/Spelling.antt) say that `decimal` accepts just this.
use Rattle.std.specs.Prelude.{◌≡◌, true, false, List, [], ◌∷◌, ◌++◌, ℕ}
use Rattle.text.specs.Digits.{all_digits}
use Rattle.amount.specs.Decimal.{empty}

-- sign ::= nothing | '-' | '+'
pub data Sign : List ℕ → Type 0 where
  none : Sign []
  minus : Sign (0x2D ∷ [])
  plus : Sign (0x2B ∷ [])

-- point ::= nothing | '.' digit*, by its fraction digits
pub data Point : List ℕ → List ℕ → Type 0 where
  absent : Point [] []
  period : (f : List ℕ) → Point (0x2E ∷ f) f

-- a text with the whole part w and the fraction f
pub record Spelled (t w f : List ℕ) : Type 0 where
  pub sign : List ℕ
  pub point : List ℕ
  pub sign_is : Sign sign
  pub point_is : Point point f
  pub whole_digits : all_digits w ≡ true
  pub fraction_digits : all_digits f ≡ true
  pub some : empty (w ++ f) ≡ false
  pub is : t ≡ sign ++ (w ++ point)
