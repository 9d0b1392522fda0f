-- The input line of the program `reading` (document 01, "The printed reading").
use Rattle.std.specs.Prelude.{Bool, cond, ◌&&◌, List, [], ◌∷◌, ℕ, ltb, leb, eqb, length}
use Rattle.std.proofs.Math.Option.{Option, none, some, map, bind}
use Rattle.text.specs.Digits.{all_digits, number}
use Rattle.text.specs.Order.{equal}
use Rattle.text.specs.Range.{within}

-- what an input line says; an empty currency or identifier is none
pub record Content : Type 0 where
  pub mode : ℕ
  pub rules : ℕ
  pub currency : List ℕ
  pub identifier : List ℕ

-- a byte more at the front of the first of several texts
unfoldable pub ahead : ℕ → List (List ℕ) → List (List ℕ)
ahead b [] = []
ahead b (f ∷ fs) = (b ∷ f) ∷ fs

-- the texts between the bytes p of a text, one more than there are such bytes: what p parts, empty texts too
unfoldable pub split : ℕ → List ℕ → List (List ℕ)
split p [] = [] ∷ []
split p (b ∷ s) = cond (eqb b p) ([] ∷ split p s) (ahead b (split p s))

-- "one input line", of the texts between line feeds: its line feed may be missing, and nothing stands after it
unfoldable pub one_line : List (List ℕ) → Option (List ℕ)
one_line [] = none
one_line (l ∷ []) = some l
one_line (l ∷ [] ∷ []) = some l
one_line (l ∷ [] ∷ m ∷ ls) = none
one_line (l ∷ (b ∷ m) ∷ ls) = none

-- the fields of an input, parted by "single spaces"
unfoldable pub parted : List ℕ → Option (List (List ℕ))
parted s = map (split 0x20) (one_line (split 0x0A s))

-- "one to nine digits"; leading zeros are digits
unfoldable pub numeral : List ℕ → Bool
numeral f = within (length f) 1 9 && all_digits f

-- a field that is not empty
unfoldable pub filled : List ℕ → Bool
filled f = ltb 0 (length f)

-- "currency or `-`, identifier or `-`": `-` alone stands for none
unfoldable pub or_none : List ℕ → List ℕ
or_none f = cond (equal f (0x2D ∷ [])) [] f

-- "mode, rules, currency, identifier", and no other field; "another form" is unfit
unfoldable pub fields_of : List (List ℕ) → Option Content
fields_of (m ∷ r ∷ c ∷ i ∷ []) =
    cond (numeral m && numeral r && filled c && filled i)
    (some (record { mode = number 0 m; rules = number 0 r; currency = or_none c; identifier = or_none i }))
    none
fields_of [] = none
fields_of (m ∷ []) = none
fields_of (m ∷ r ∷ []) = none
fields_of (m ∷ r ∷ c ∷ []) = none
fields_of (m ∷ r ∷ c ∷ i ∷ f ∷ fs) = none

-- the most bytes of an input; document 01 has no such limit
abbrev pub longest : ℕ
longest = 4194304

-- what an input says; a longer one is unfit
unfoldable pub line_of : List ℕ → Option Content
line_of s = cond (leb (length s) longest) (bind (parted s) fields_of) none
