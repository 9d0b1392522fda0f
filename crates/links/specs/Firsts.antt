-- The first child of each of some names, in one pass over the children: `first_of_each` (proofs/FirstKids.antt) says that it is what a look-up by each name finds.
use Rattle.std.specs.Prelude.{cond, ◌&&◌, ℕ, ltb, length, get_or, set, Option, None, Some, is_none}
use mathlib.Core.List.{List, foldl}
use Rattle.text.specs.Place.{place}
use Rattle.table.specs.Table.{name_of}
use Rattle.links.specs.Links.{linked}

-- number k becomes c, unless there is no such number or it was set before
unfoldable pub keep : List (Option ℕ) → ℕ → ℕ → List (Option ℕ)
keep ks k c = cond (ltb k (length ks) && is_none (get_or ks k None)) (set ks k (Some c)) ks

-- the first of each name after one child more
abbrev pub keep_one : List ℕ → List ℕ → List (List ℕ) → List (Option ℕ) → ℕ → List (Option ℕ)
keep_one t x ws ks c = keep ks (place ws (name_of t x c)) c

-- after all children of record i
unfoldable pub keep_all : List ℕ → List ℕ → List ℕ → ℕ → List (List ℕ) → List (Option ℕ) → List (Option ℕ)
keep_all t x l i ws ks = foldl (keep_one t x ws) ks (linked l 0 i)
