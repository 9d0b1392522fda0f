-- What the answers of the code say, and where the fields of an input stand.
use Rattle.std.specs.Prelude.{◌≡◌, Bool, true, false, cond, ◌&&◌, List, [], ◌∷◌, ℕ, ◌+◌, leb, eqb, length, get_or, drop}
use Rattle.std.proofs.Math.Option.{Option, none, some, map}
use Rattle.text.specs.declared.span.Span.{Span}
use Rattle.text.specs.Digits.{number}
use Rattle.text.specs.Order.{equal}
use Rattle.text.specs.Span.{cut}
use Rattle.names.specs.Put.{put}
use Rattle.inputs.specs.Line.{Content, numeral, filled, longest, line_of}
use Rattle.inputs.specs.Given.{Given, numbers_of, record_file, input_of}
use Rattle.inputs.specs.Spelling.{mark}
use Rattle.std.specs.declared.option.Option as code
use Rattle.std.specs.Prelude.{None, Some}
use Rattle.inputs.specs.declared.input_line.Fields.{Fields}

-- what an answer says of an input
abbrev pub line_at : List ℕ → code.Option Fields → Option Content
line_at s None = none
line_at s (Some f) =
    some
    (record { mode = f.mode; rules = f.rules; currency = cut f.currency s; identifier = cut f.identifier s })

-- what it says of record file, text and input line
unfoldable pub given_by : List ℕ → List ℕ → List ℕ → code.Option Fields → Option Given
given_by records text input a =
    map (λ (l : Content). record { table = numbers_of records; text = text; line = l }) (line_at input a)

-- the numbers of a record file were put at the front of l, which gives l', and r is their number
pub record Listed (records l l' : List ℕ) (r : ℕ) : Type 0 where
  pub now : l' ≡ put l 0 (numbers_of records)
  pub many : r ≡ length (numbers_of records)

-- a space stands at i
unfoldable pub space_at : List ℕ → ℕ → Bool
space_at s i = eqb (get_or s i 0) 0x20

-- the bytes before the first space or line feed
unfoldable pub word : List ℕ → List ℕ
word [] = []
word (b ∷ s) = cond (mark b) [] (b ∷ word s)

-- the place of the field that begins at i
unfoldable pub field_at : List ℕ → ℕ → Span
field_at s i = record { start = i; end = i + length (word (drop i s)) }

-- the same, if a space ends it
unfoldable pub spaced_at : List ℕ → ℕ → code.Option Span
spaced_at s i = cond (space_at s (field_at s i).end) (Some (field_at s i)) None

-- nothing, or nothing but a line feed
unfoldable pub closing : List ℕ → Bool
closing [] = true
closing (b ∷ []) = eqb b 0x0A
closing (b ∷ c ∷ s) = false

-- the place of a currency or an identifier, empty where `-` stands for none
unfoldable pub name_at : List ℕ → Span → Span
name_at s p = cond (equal (cut p s) (0x2D ∷ [])) (record { start = p.start; end = p.start }) p

-- the same of a field that is not empty
unfoldable pub named_at : List ℕ → Span → code.Option Span
named_at s p = cond (filled (cut p s)) (Some (name_at s p)) None

-- the answer to four fields, by their places
unfoldable pub fit_at : List ℕ → Span → Span → Span → Span → code.Option Fields
fit_at s m r c i =
    cond (numeral (cut m s) && numeral (cut r s) && filled (cut c s) && filled (cut i s))
    (Some (record { mode = number 0 (cut m s); rules = number 0 (cut r s); currency = name_at s c; identifier = name_at s i }))
    None

-- the answer to an input: four fields, a space behind each but the last
unfoldable pub line_in : List ℕ → code.Option Fields
line_in s =
    let m = field_at s 0 in
    let r = field_at s (m.end + 1) in
    let c = field_at s (r.end + 1) in
    let i = field_at s (c.end + 1) in
    cond (leb (length s) longest && space_at s m.end && space_at s r.end && space_at s c.end && closing (drop i.end s))
    (fit_at s m r c i)
    None

-- an answer to an input says what is defined, and names the places in it
pub record Parsed (s : List ℕ) (a : code.Option Fields) : Type 0 where
  pub says : line_at s a ≡ line_of s
  pub is : a ≡ line_in s

-- and so does one to record file, text and input line
pub record Decided (records text input : List ℕ) (a : code.Option Fields) : Type 0 where
  pub says : given_by records text input a ≡ input_of records text input
  pub is : a ≡ cond (record_file records && leb (length text) 65536) (line_in input) None
