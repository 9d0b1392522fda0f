-- The text of a path's, a term's or a parent's number is its own.
use mathlib.Core.Path.{◌≡◌, refl}
use mathlib.Core.List.{List, []}
use mathlib.Core.Option.{none, some, Option-elim}
use Prim.Native.String.{String}
use Prim.Native.Nat.{ℕ}
use Rattle.text.specs.Utf8.{bytes}
use Rattle.names.specs.declared.path.Path.{Path}
use Rattle.names.specs.declared.term.Term.{Term}
use Rattle.names.specs.declared.parent.Parent.{Parent}
use Rattle.names.specs.Numbered.{nth}
use Rattle.names.specs.Path.{path_number, paths}
use Rattle.names.specs.Term.{term_number, maybe_term_number, terms}
use Rattle.names.specs.Parent.{parent_number, parents}
use Rattle.names.proofs.Numbers.{path_found, term_found, parent_found}
use Rattle.labels.specs.Text.{text_at}
use Rattle.labels.specs.PathText.{path_text, path_text_at}
use Rattle.labels.specs.TermName.{term_group, term_group_at, term_name, term_name_at}
use Rattle.labels.specs.ParentName.{parent_name, parent_name_at}

-- the text of a number is its own's
module _ {A : Type 0} (f : A → String) (l : List A) (n : ℕ) where
  text-found : (x : A) → nth l n ≡ some x → text_at f l n ≡ bytes (f x)
  unfolding text_at Option-elim
  text-found x e = rw e

pub path-text : (x : Path) → path_text_at (path_number x) ≡ bytes (path_text x)
unfolding path_text_at
path-text x = text-found path_text paths (path_number x) x (path_found x)

pub parent-name : (x : Parent) → parent_name_at (parent_number x) ≡ bytes (parent_name x)
unfolding parent_name_at
parent-name x = text-found parent_name parents (parent_number x) x (parent_found x)

pub term-group : (t : Term) → term_group_at (term_number t) ≡ bytes (term_group t)
unfolding term_group_at
term-group t = text-found term_group terms (term_number t) t (term_found t)

pub term-name : (t : Term) → term_name_at (term_number t) ≡ bytes (term_name t)
unfolding term_name_at
term-name t = text-found term_name terms (term_number t) t (term_found t)

-- an absent term's are empty
pub no-term : (term_group_at (maybe_term_number none) ≡ []) × (term_name_at (maybe_term_number none) ≡ [])
unfolding term_group_at term_name_at text_at nth Option-elim
no-term = (refl, refl)
