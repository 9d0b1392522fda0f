-- The table as a document: records, and places of the text.
use Rattle.std.specs.Prelude.{cond, List, ℕ, ◌+◌, ◌-◌, min, eqb}
use Rattle.std.proofs.Math.Option.{Option, none, some}
use Rattle.text.specs.Span.{clipped}
use Rattle.table.specs.Table.{cell, named, first_of, kids, attrs}
use Rattle.report.specs.Rows.{Place}
use Rattle.settlement.specs.Document.{Doc, maybe}

-- a record's name: fields 2 and 3
abbrev pub name_at : List ℕ → ℕ → Place
name_at t r = record { start = cell t r 2; len = cell t r 3 }

-- a record's text: fields 4 and 5
abbrev pub text_at : List ℕ → ℕ → Place
text_at t r = record { start = cell t r 4; len = cell t r 5 }

-- an element's text, length 0 being no text (document 01, "From the tree to the table")
unfoldable pub own_text_at : List ℕ → ℕ → Option Place
own_text_at t r = cond (eqb (cell t r 5) 0) none (some (text_at t r))

-- the bytes that a place of the text shows
unfoldable pub shows : List ℕ → Place → List ℕ
shows x p = clipped x p.start p.len

-- a table's records as a document, by the lists of each record's children and attributes; of two equal attribute names the earlier counts
abbrev pub doc_of : List ℕ → List ℕ → (ℕ → List ℕ) → (ℕ → List ℕ) → Doc ℕ Place
doc_of t x children attributes =
    record {
      name = name_at t;
      text = own_text_at t;
      attr = λ r w. maybe none (λ a. some (text_at t a)) (first_of (named t x w) (attributes r));
      kids = children;
      bytes = shows x;
      cut = λ p a n. record { start = p.start + a; len = min n (p.len - a) };
      empty = record { start = 0; len = 0 };
    }

-- the document of a table and its text
unfoldable pub table_doc : List ℕ → List ℕ → Doc ℕ Place
table_doc t x = doc_of t x (kids t) (attrs t)
