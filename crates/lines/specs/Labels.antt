-- Paths and terms as the Rust prints them, by their numbers (document 01, "Rows": Entry, Unmapped).
use Rattle.std.specs.Prelude.{cond, List, [], ◌++◌, ℕ, eqb, ℤ, pos, negsuc, length}
use Rattle.std.proofs.Math.Option.{Option, none, some}
use Rattle.text.specs.Utf8.{bytes}
use Rattle.text.specs.Span.{clipped}
use Rattle.labels.specs.TermName.{term_group_at, term_name_at}
use Rattle.labels.specs.ParentName.{parent_name_at}
use Rattle.decimals.specs.Decimal.{decimal, natural}
use Rattle.fields.specs.Line.{printable}

-- a group's index in brackets, nothing where it has none (-1)
unfoldable pub bracketed : ℤ → List ℕ
bracketed (pos i) = bytes "[" ++ decimal i ++ bytes "]"
bracketed (negsuc i) = []

-- the group, if the term stands in one, with its index and a slash
unfoldable pub group_text : List ℕ → ℤ → List ℕ
group_text group index = cond (eqb (length group) 0) [] (group ++ bracketed index ++ bytes "/")

-- the term's name behind its group: `BG-23[0]/BT-116`
unfoldable pub term_text : List ℕ → ℤ → List ℕ → List ℕ
term_text group index name = group_text group index ++ name

-- the same by the term's number, 0 being none
unfoldable pub term_shown : ℕ → ℤ → Option (List ℕ)
term_shown n index = cond (eqb n 0) none (some (term_text (term_group_at n) index (term_name_at n)))

-- an unmapped element's parent and its name, parted by a slash
unfoldable pub unmapped_path : ℕ → List ℕ → List ℕ
unmapped_path parent name = parent_name_at parent ++ bytes "/" ++ name

-- the name's bytes in the text, a number below 0 being as good as 0
unfoldable pub name_shown : List ℕ → ℤ → ℤ → List ℕ
name_shown x start len = printable (clipped x (natural start) (natural len))
