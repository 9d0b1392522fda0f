-- The texts of numbers.
use Rattle.std.specs.Prelude.{List, [], ℕ}
use Rattle.std.proofs.Math.Option.{Option-elim}
use Prim.Native.String.{String}
use Rattle.text.specs.Utf8.{bytes}
use Rattle.names.specs.Numbered.{nth}

-- the text of the element that has a number, nothing where none has it
unfoldable pub text_at : {A : Type 0} → (A → String) → List A → ℕ → List ℕ
text_at f l n = Option-elim (nth l n) [] (λ x. bytes (f x))
