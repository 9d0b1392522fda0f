-- The type boolean of XML Schema.
use Rattle.std.specs.Prelude.{Bool, true, false, List, [], ◌∷◌, ℕ}
use Prim.Native.String.{String}
use Rattle.text.specs.Answer.{Answer, read, says}
use Rattle.codes.specs.CodeList.{meaning}
use Rattle.std.specs.Prelude.{Option, None, Some}

-- the legal literals and their values (XML Schema part 2, 3.2.2.1)
unfoldable pub literals : List (String × Bool)
literals = ("true", true) ∷ ("1", true) ∷ ("false", false) ∷ ("0", false) ∷ []

-- the value of a literal, message 18 for any other text (document 01, "Rows": indicator not boolean)
unfoldable pub boolean_of : List ℕ → Answer Bool
boolean_of s = meaning 18 literals s

-- what an answer of `parse_boolean` says
abbrev pub boolean_answer : Option Bool → Answer Bool
boolean_answer (Some b) = read b
boolean_answer None = says 18
