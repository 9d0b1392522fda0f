-- The business terms of entries and their groups (EN 16931-1, 6.3; document 01, "Rows": Entry).
use Rattle.std.specs.Prelude.{List, [], ◌∷◌, ℕ}
use Rattle.std.proofs.Math.Option.{Option, none, some}
use Rattle.names.specs.declared.term.Term.{Term}

-- the number in docs/TERMS.md
abbrev pub term_number : Term → ℕ
term_number Term.Bt106 = 1
term_number Term.Bt107 = 2
term_number Term.Bt108 = 3
term_number Term.Bt109 = 4
term_number Term.Bt110 = 5
term_number Term.Bt112 = 6
term_number Term.Bt113 = 7
term_number Term.Bt114 = 8
term_number Term.Bt115 = 9
term_number Term.Bt116 = 10
term_number Term.Bt117 = 11
term_number Term.Bt118 = 12
term_number Term.Bt119 = 13
term_number Term.Bt92 = 14
term_number Term.Bt93 = 15
term_number Term.Bt94 = 16
term_number Term.Bt95 = 17
term_number Term.Bt96 = 18
term_number Term.Bt99 = 19
term_number Term.Bt100 = 20
term_number Term.Bt101 = 21
term_number Term.Bt102 = 22
term_number Term.Bt103 = 23
term_number Term.Bt25 = 24
term_number Term.Bt8 = 25

-- the same of a term that may be absent, 0 for none
abbrev pub maybe_term_number : Option Term → ℕ
maybe_term_number none = 0
maybe_term_number (some t) = term_number t

-- the terms in the order of their numbers
unfoldable pub terms : List Term
terms =
    Term.Bt106 ∷
    Term.Bt107 ∷
    Term.Bt108 ∷
    Term.Bt109 ∷
    Term.Bt110 ∷
    Term.Bt112 ∷
    Term.Bt113 ∷
    Term.Bt114 ∷
    Term.Bt115 ∷
    Term.Bt116 ∷
    Term.Bt117 ∷
    Term.Bt118 ∷
    Term.Bt119 ∷
    Term.Bt92 ∷
    Term.Bt93 ∷
    Term.Bt94 ∷
    Term.Bt95 ∷
    Term.Bt96 ∷
    Term.Bt99 ∷
    Term.Bt100 ∷
    Term.Bt101 ∷
    Term.Bt102 ∷
    Term.Bt103 ∷
    Term.Bt25 ∷
    Term.Bt8 ∷
    []
