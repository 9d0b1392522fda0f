-- The rules number: which rules of EN 16931 are in force.
use Rattle.std.specs.Prelude.{Bool, ℕ, ◌/◌, ◌%◌, ◌^◌, eqb}
use Rattle.codes.specs.declared.rules.Rule.{Rule}
use Rattle.codes.specs.declared.rules.Rule.TheVariants.{Br12, Br13, Br14, Br15, Br31, Br32, Br36, Br37, Br45, Br46, Br47, Br55}

-- the bit of a rule (document 01, "From the tree to the table": BR-12, 13, 14, 15, 31, 32, 36, 37, 45, 46, 47, 55)
abbrev pub bit_of : Rule → ℕ
bit_of Br12 = 0
bit_of Br13 = 1
bit_of Br14 = 2
bit_of Br15 = 3
bit_of Br31 = 4
bit_of Br32 = 5
bit_of Br36 = 6
bit_of Br37 = 7
bit_of Br45 = 8
bit_of Br46 = 9
bit_of Br47 = 10
bit_of Br55 = 11

-- bit k of n is 1
unfoldable pub bit : ℕ → ℕ → Bool
bit k n = eqb (n / 2 ^ k % 2) 1

-- a rule is in force where its bit of the rules number is 1
unfoldable pub in_force : ℕ → Rule → Bool
in_force rules rule = bit (bit_of rule) rules
