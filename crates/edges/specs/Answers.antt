-- What is printed of a case: the numbers of the definitions' answers, document 01's message first.
use Rattle.std.specs.Prelude.{Bool, cond, List, [], ◌∷◌, ltb, ℤ, pos, negsuc, length, get_or, take, drop}
use Rattle.std.proofs.Math.Option.{Option, none, some}
use Prim.Native.Nat.{ℕ, ◌/◌, ◌%◌, Ordering}
use Prim.Native.String.{String}
use Rattle.text.specs.declared.span.Span.{Span}
use Rattle.text.specs.Answer.{Answer}
use Rattle.text.specs.Digits.{digit}
use Rattle.text.specs.Order.{equal, order}
use Rattle.text.specs.Place.{meant}
use Rattle.text.specs.Span.{part_of}
use Rattle.characters.specs.Trim.{trimmed}
use Rattle.characters.specs.Characters.{utf8}
use Rattle.amount.specs.Amount.{parsed_amount}
use Rattle.amount.specs.Percentage.{parsed_percentage}
use Rattle.date.specs.Date.{parsed_date}
use Rattle.codes.specs.Boolean.{boolean_of}
use Rattle.codes.specs.Conformant.{conformant}
use Rattle.codes.specs.Currency.{listed}
use Rattle.codes.specs.DateFormat.{date_format}
use Rattle.codes.specs.Rules.{in_force}
use Rattle.codes.specs.Vat.{vat}
use Rattle.codes.specs.VatPoint.{vat_point_date_code_of}
use Rattle.codes.specs.declared.rules.Rule as law
use Rattle.codes.specs.declared.rules.Rule.TheVariants.{Br12, Br13, Br14, Br15, Br31, Br32, Br36, Br37, Br45, Br46, Br47, Br55}
use Rattle.edges.specs.declared.answers.Numbers.{Numbers}
use Rattle.edges.specs.declared.answers.Numbers.TheVariants.{Nothing, One, Two, Three}
use Rattle.edges.specs.declared.leaves.Leaf.{Leaf}
use Rattle.edges.specs.declared.leaves.Leaf.TheVariants.{Utf8, Trim, Digit, Same, Compare, Part, Amount, Percentage, Date, Currency, Vat, Conformant, Format, Point, Boolean, Rule}
use Rattle.std.specs.declared.option.Option as code
use Rattle.std.specs.Prelude.{None, Some}

-- up to three numbers
abbrev pub numbers : List ℤ → Numbers
numbers [] = Nothing
numbers (a ∷ []) = One a
numbers (a ∷ b ∷ []) = Two a b
numbers (a ∷ b ∷ c ∷ s) = Three a b c

-- 1 where it holds
abbrev pub truth : Bool → ℤ
truth b = cond b (pos 1) (pos 0)

abbrev pub places : Span → List ℤ
places p = pos p.start ∷ pos p.end ∷ []

abbrev pub sign : Ordering → ℤ
sign Ordering.lt = negsuc 0
sign Ordering.eq = pos 0
sign Ordering.gt = pos 1

unfoldable pub first_byte : List ℕ → ℤ
first_byte p = cond (ltb 0 (length p)) (pos (get_or p 0 0)) (negsuc 0)

-- the length of a part and its first byte, -1 where there is none
unfoldable pub part_numbers : List ℕ → List ℤ
part_numbers p = pos (length p) ∷ first_byte p ∷ []

-- the numbers of a value that was read
abbrev pub value_numbers : {A : Type 0} → (A → List ℤ) → Option A → List ℤ
value_numbers f none = []
value_numbers f (some a) = f a

-- the message, and the value where there is one
abbrev pub said : {A : Type 0} → (A → List ℤ) → Answer A → List ℤ
said f a = pos a.message ∷ value_numbers f a.value

abbrev pub amount_numbers : Answer ℤ → List ℤ
amount_numbers a = said (λ (z : ℤ). z ∷ []) a

abbrev pub percentage_numbers : Answer (ℤ × ℕ) → List ℤ
percentage_numbers a = said (λ (p : ℤ × ℕ). p.0 ∷ pos p.1 ∷ []) a

abbrev pub natural_numbers : Answer ℕ → List ℤ
natural_numbers a = said (λ (n : ℕ). pos n ∷ []) a

abbrev pub boolean_numbers : Answer Bool → List ℤ
boolean_numbers a = said (λ (b : Bool). truth b ∷ []) a

-- the rules by their numbers (document 01, "From the tree to the table")
unfoldable pub rules : List (String × code.Option law.Rule)
rules =
    ("12", Some Br12) ∷ ("13", Some Br13) ∷ ("14", Some Br14) ∷ ("15", Some Br15) ∷ ("31", Some Br31) ∷ ("32", Some Br32) ∷
    ("36", Some Br36) ∷ ("37", Some Br37) ∷ ("45", Some Br45) ∷ ("46", Some Br46) ∷ ("47", Some Br47) ∷ ("55", Some Br55) ∷ []

unfoldable pub rule_of : List ℕ → code.Option law.Rule
rule_of s = meant None rules s

-- whether a rule is in force, and no number where there is no such rule
abbrev pub rule_numbers : ℕ → code.Option law.Rule → List ℤ
rule_numbers n (Some r) = truth (in_force n r) ∷ []
rule_numbers n None = []

-- the numbers of a case
abbrev pub answer_of : Leaf → ℕ → List ℕ → List ℤ
answer_of Utf8 n s = truth (utf8 s) ∷ []
answer_of Trim n s = places (trimmed n s)
answer_of Digit n s = truth (digit (get_or s 0 0)) ∷ []
answer_of Same n s = truth (equal (take n s) (drop n s)) ∷ []
answer_of Compare n s = sign (order (take n s) (drop n s)) ∷ []
answer_of Part n s = part_numbers (part_of s (n / 1000) (n % 1000))
answer_of Amount n s = amount_numbers (parsed_amount n s)
answer_of Percentage n s = percentage_numbers (parsed_percentage n s)
answer_of Date n s = natural_numbers (parsed_date n s)
answer_of Currency n s = truth (listed s) ∷ []
answer_of Vat n s = truth (vat s) ∷ []
answer_of Conformant n s = truth (conformant s) ∷ []
answer_of Format n s = truth (date_format s) ∷ []
answer_of Point n s = natural_numbers (vat_point_date_code_of s)
answer_of Boolean n s = boolean_numbers (boolean_of s)
answer_of Rule n s = rule_numbers n (rule_of s)
