-- A table whose records are linked, as a document; `linked_doc` (proofs/Documents.antt) says that it is the table's own.
use Rattle.std.specs.Prelude.{List, ℕ, map, Option}
use denote.Ref.{Bor}
use Rattle.links.specs.Links.{linked}
use Rattle.links.specs.Firsts.{keep_all}
use Rattle.report.specs.Rows.{Place}
use Rattle.settlement.specs.Document.{Doc}
use Rattle.settlement.specs.TableDoc as table
use Rattle.element.specs.declared.document.Document.{Document}

-- children and attributes are those that the links spell
abbrev pub link_doc : List ℕ → List ℕ → List ℕ → Doc ℕ Place
link_doc t x l = table.doc_of t x (linked l 0) (linked l 1)

-- a settlement as it is lent
abbrev pub doc_of : Document → Doc ℕ Place
doc_of d = link_doc d.table.records.now d.table.text.now d.links.now

-- its text, where places are
abbrev pub lent_text : Document → List ℕ
lent_text d = d.table.text.now

-- the first child of each of some names of an element
abbrev pub firsts_of : Document → ℕ → List (Bor (List ℕ)) → List (Option ℕ) → List (Option ℕ)
firsts_of d n names firsts = keep_all d.table.records.now d.table.text.now d.links.now n (map (λ w. w.now) names) firsts
