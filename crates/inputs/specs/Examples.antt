-- Input lines, fit and unfit, and what they say.
use Rattle.std.specs.Prelude.{List, [], ◌∷◌, ℕ, length, replicate}
use Rattle.std.proofs.Math.Option.{Option, none, some, map}
use Prim.Native.String.{String}
use Rattle.text.specs.Utf8.{bytes}
use Rattle.inputs.specs.Line.{Content}
use Rattle.inputs.specs.Given.{Given, input_of}

-- a line that says these
abbrev says : ℕ → ℕ → String → String → Option Content
says m r c i = some (record { mode = m; rules = r; currency = bytes c; identifier = bytes i })

-- document 01's line; its line feed; leading zeros and names that begin with `-`; then an empty field, two
-- spaces, a fifth field, something after the line feed, ten digits, and no digit
unfoldable pub examples : List (String × Option Content)
examples =
    ("0 0 EUR -", says 0 0 "EUR" "")
    ∷ ("1 4095 EUR DE1\n", says 1 4095 "EUR" "DE1")
    ∷ ("0 000000007 - --", says 0 7 "" "--")
    ∷ ("0 0 EUR ", none)
    ∷ ("0  0 EUR -", none)
    ∷ ("0 0 EUR - -", none)
    ∷ ("0 0 EUR -\n\n", none)
    ∷ ("0 0000000000 EUR -", none)
    ∷ ("0 x EUR -", none)
    ∷ []

-- the table that a record file gives beside an empty text and document 01's line
abbrev pub table_of : List ℕ → Option (List ℕ)
table_of records = map (λ (g : Given). g.table) (input_of records [] (bytes "0 0 EUR -"))

-- record files and their tables: one whose records are not whole is refused and not unfit
unfoldable pub record_files : List (List ℕ × Option (List ℕ))
record_files =
    ([], some [])
    ∷ (1 ∷ 2 ∷ 3 ∷ 4 ∷ 255 ∷ 255 ∷ 255 ∷ 255 ∷ [], some (67305985 ∷ 4294967295 ∷ []))
    ∷ (0 ∷ 0 ∷ 0 ∷ 0 ∷ 0 ∷ [], none)
    ∷ []

-- how many numbers and how many bytes of text a record file and a text of these sizes give beside that line
abbrev pub counts_of : ℕ → ℕ → Option (ℕ × ℕ)
counts_of records text =
    map (λ (g : Given). (length g.table, length g.text)) (input_of (replicate records 0) (replicate text 0x20) (bytes "0 0 EUR -"))

-- sizes of record file and text: each limit, a number and a byte beyond it, and files not of whole numbers
unfoldable pub sizes : List ((ℕ × ℕ) × Option (ℕ × ℕ))
sizes =
    ((6144, 65536), some (1536, 65536))
    ∷ ((6148, 0), none)
    ∷ ((0, 65537), none)
    ∷ ((6143, 0), none)
    ∷ ((6145, 0), none)
    ∷ []
