-- The lines of a printed reading and their fields (document 01, "The printed reading").
use Rattle.std.specs.Prelude.{cond, List, [], ◌∷◌, ◌++◌, map, ℕ, ltb, ℤ}
use Rattle.std.proofs.Math.Option.{Option, none, some}
use Prim.Native.String.{String}
use Rattle.text.specs.Utf8.{bytes}
use Rattle.decimals.specs.Decimal.{decimal, signed}

-- "bytes below 32 print as a space"
unfoldable pub printed : ℕ → ℕ
printed b = cond (ltb b 0x20) 0x20 b

unfoldable pub printable : List ℕ → List ℕ
printable s = map printed s

-- "absent is `-`"
unfoldable pub field : Option (List ℕ) → List ℕ
field none = bytes "-"
field (some s) = s

-- "a percentage is unscaled, slash, scale"
unfoldable pub percentage : ℤ → ℕ → List ℕ
percentage unscaled scale = signed unscaled ++ bytes "/" ++ decimal scale

-- fields, each behind a tab: "fields are parted by a tab"
unfoldable pub tabbed : List (List ℕ) → List ℕ
tabbed [] = []
tabbed (f ∷ fs) = 0x9 ∷ f ++ tabbed fs

-- a line: its word, its fields, a line feed
unfoldable pub line : String → List (List ℕ) → List ℕ
line word fs = bytes word ++ tabbed fs ++ 0xA ∷ []
