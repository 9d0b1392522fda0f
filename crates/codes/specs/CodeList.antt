-- Code lists: what each code means.
use Rattle.std.specs.Prelude.{cond, List, [], ◌∷◌, ℕ}
use Prim.Native.String.{String}
use Rattle.text.specs.Answer.{Answer, read, says}
use Rattle.text.specs.Order.{equal}
use Rattle.text.specs.Utf8.{bytes}

-- the meaning that stands beside a code in a list, message n where the list does not have the code
unfoldable pub meaning : {A : Type 0} → ℕ → List (String × A) → List ℕ → Answer A
meaning n [] s = says n
meaning n (c ∷ cs) s = cond (equal s (bytes c.0)) (read c.1) (meaning n cs s)
