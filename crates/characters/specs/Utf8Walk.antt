-- A pass over bytes that may be UTF-8 in steps, ASCII sixteen octets at once: `step_on`, `step_stop` and `stepwise_utf8` (proofs/Steps.antt) join it to `utf8`.
use Rattle.std.specs.Prelude.{Bool, cond, not, ◌&&◌, ◌||◌, List, ℕ, zero, suc, ◌+◌, ◌-◌, ◌%◌, leb, eqb, length, take, drop}
use Rattle.characters.specs.Characters.{front, size, good, ascii}

-- a block of sixteen octets starts at i and is ASCII
unfoldable pub plain : List ℕ → ℕ → Bool
plain s i = eqb (i % 16) 0 && (leb 16 (length s - i) && ascii (take 16 (drop i s)))

-- the octets that one step over characters passes at i: such a block or a character, none where there is neither
unfoldable pub step : List ℕ → ℕ → ℕ
step s i = cond (plain s i) 16 (cond (good (front (drop i s))) (size (front (drop i s))) 0)

-- the pass from i on, of at most n steps: each passes some octets, up to the end
unfoldable pub passes : List ℕ → ℕ → ℕ → Bool
passes s zero i = leb (length s) i
passes s (suc n) i = leb (length s) i || (not (eqb (step s i) 0) && passes s n (i + step s i))

-- the whole pass, of which each step takes an octet at least
abbrev pub stepwise : List ℕ → Bool
stepwise s = passes s (length s) 0
