-- Where a name stands among names, and what it stands for.
use Rattle.std.specs.Prelude.{cond, List, [], ◌∷◌, ℕ, suc, find, Option}
use Rattle.std.specs.Option.{option_map}
use denote.Ref.{Bor}
use Prim.Native.String.{String}
use Rattle.text.specs.Order.{equal}
use Rattle.text.specs.Utf8.{bytes}

-- where a name stands among names, and their number where it does not
unfoldable pub place : List (List ℕ) → List ℕ → ℕ
place [] s = 0
place (w ∷ ws) s = cond (equal s w) 0 (suc (place ws s))

-- what a name stands for in a list that is lent, where the list has it
unfoldable pub meaning : {A : Type 0} → List (Bor (List ℕ) × A) → List ℕ → Option A
meaning names s = option_map (λ w. w.1) (find (λ w. equal s w.0.now) names)

-- what a name stands for in a list, and a where the list does not have it
unfoldable pub meant : {A : Type 0} → A → List (String × A) → List ℕ → A
meant a [] s = a
meant a (c ∷ cs) s = cond (equal s (bytes c.0)) c.1 (meant a cs s)
