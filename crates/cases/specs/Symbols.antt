-- The text of a case: printable ASCII stands for itself, \HH for one byte, and \* for the hole.
use Rattle.std.specs.Prelude.{◌≡◌, cond, ◌&&◌, List, [], ◌∷◌, map, ℕ, zero, suc, pred, ◌+◌, ◌*◌, ◌-◌, min, ltb, eqb, length, get_or, Option, Some, None}
use Rattle.text.specs.Range.{within}
use Rattle.names.specs.Put.{put}
use Rattle.cases.specs.declared.Symbol.{Symbol}
use Rattle.cases.specs.declared.Symbol.TheVariants.{Byte, Hole, Bad}

-- the value of a hex digit, 16 for another byte
unfoldable pub nibble : ℕ → ℕ
nibble b =
    cond (within b 0x30 0x39) (b - 0x30)
    (cond (within b 0x61 0x66) (b - 0x61 + 10)
    (cond (within b 0x41 0x46) (b - 0x41 + 10) 16))

-- the same, with nothing for another byte
unfoldable pub digit_of : ℕ → Option ℕ
digit_of b = cond (ltb (nibble b) 16) (Some (nibble b)) None

-- a backslash with what follows it
unfoldable pub escaped : ℕ → ℕ → Symbol
escaped a b = cond (eqb a 0x2A) Hole (cond (ltb (nibble a) 16 && ltb (nibble b) 16) (Byte (nibble a * 16 + nibble b) 3) Bad)

-- the symbol at the front of a text. Past the end stands 0, which is in no escape
unfoldable pub symbol : List ℕ → Symbol
symbol s =
    cond (eqb (get_or s 0 0) 0x5C) (escaped (get_or s 1 0) (get_or s 2 0))
    (cond (within (get_or s 0 0) 0x20 0x7E) (Byte (get_or s 0 0) 1) Bad)

-- the number of bytes that write a symbol
abbrev pub size : Symbol → ℕ
size (Byte b n) = n
size Hole = 2
size Bad = 1

-- the symbols of a text of which the first k bytes belong to the symbol before
unfoldable pub symbols : ℕ → List ℕ → List Symbol
symbols k [] = []
symbols zero (b ∷ s) = symbol (b ∷ s) ∷ symbols (pred (size (symbol (b ∷ s)))) s
symbols (suc k) (b ∷ s) = symbols k s

-- a hole counts as one, what is no symbol as two
abbrev pub weight : Symbol → ℕ
weight (Byte b n) = 0
weight Hole = 1
weight Bad = 2

unfoldable pub total : List Symbol → ℕ
total [] = 0
total (x ∷ xs) = weight x + total xs

-- the number of holes, 2 where there are more or the text is unfit
unfoldable pub holes_of : List ℕ → ℕ
holes_of s = min 2 (total (symbols 0 s))

-- a symbol's byte, v for the hole
abbrev pub byte_of : ℕ → Symbol → ℕ
byte_of v (Byte b n) = b
byte_of v Hole = v
byte_of v Bad = 0

-- the bytes of a text, v for the hole
unfoldable pub filled : ℕ → List ℕ → List ℕ
filled v s = map (byte_of v) (symbols 0 s)

-- the bytes of a text were put at the front of l, which gives l', and r is their number
pub record Filled (v : ℕ) (s l l' : List ℕ) (r : ℕ) : Type 0 where
  pub now : l' ≡ put l 0 (filled v s)
  pub many : r ≡ length (filled v s)
