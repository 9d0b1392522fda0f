-- What is answered on a text whose hole is filled.
use mathlib.Core.Path.{◌≡◌, ◌∙◌, ap}
use mathlib.Core.List.{List}
use Prim.Native.Nat.{ℕ, ◌≤◌}
use lib.ListN.{length}
use Rattle.text.specs.Span.{part_of}
use Rattle.cases.specs.Symbols.{filled, Filled}
use Rattle.cases.proofs.Symbols.{read_back}
use Rattle.edges.specs.declared.answers.Numbers.{Numbers}
use Rattle.edges.specs.declared.leaves.Leaf.{Leaf}
use Rattle.edges.specs.Answers.{numbers, answer_of}

-- what is answered on the bytes that were put
pub answer_back :
    (leaf : Leaf) (n v : ℕ) (s l l' : List ℕ) (r : ℕ) (t : List ℕ) (a : Numbers) → Filled v s l l' r → t ≡ part_of l' 0 r → a ≡ numbers (answer_of leaf n t) →
    length s ≤ length l → a ≡ numbers (answer_of leaf n (filled v s))
answer_back leaf n v s l l' r t a f e q h = q ∙ ap (λ (u : List ℕ). numbers (answer_of leaf n u)) (e ∙ read_back v s l l' r f h)
