-- What the program `reading` is given (document 01, "The printed reading"): record file, text and input line.
use Rattle.std.specs.Prelude.{Bool, cond, ◌&&◌, List, [], ◌∷◌, ℕ, ◌+◌, ◌*◌, ◌%◌, leb, eqb, length}
use Rattle.std.proofs.Math.Option.{Option, none, map}
use Rattle.inputs.specs.Line.{Content, line_of}

-- the number of four bytes, "little-endian"
abbrev pub little_endian : ℕ → ℕ → ℕ → ℕ → ℕ
little_endian a b c d = a + b * 256 + c * 65536 + d * 16777216

-- the numbers of a record file, four bytes each
unfoldable pub numbers_of : List ℕ → List ℕ
numbers_of (a ∷ b ∷ c ∷ d ∷ s) = little_endian a b c d ∷ numbers_of s
numbers_of [] = []
numbers_of (a ∷ []) = []
numbers_of (a ∷ b ∷ []) = []
numbers_of (a ∷ b ∷ c ∷ []) = []

-- what a call of the reader is made of
pub record Given : Type 0 where
  pub table : List ℕ
  pub text : List ℕ
  pub line : Content

-- a record file not "over 256 records", six numbers each, and "of whole numbers"; that its records are whole is refusal 3
unfoldable pub record_file : List ℕ → Bool
record_file records = leb (length records) (256 * 6 * 4) && eqb (length records % 4) 0

-- record file, a text not "over 65,536 bytes" and input line; none where one of them is unfit
unfoldable pub input_of : List ℕ → List ℕ → List ℕ → Option Given
input_of records text input =
    cond (record_file records && leb (length text) 65536)
    (map (λ (l : Content). record { table = numbers_of records; text = text; line = l }) (line_of input))
    none
