-- Children by name, the last of them and those around it, the first that gives something, and the terms of a direct debit, for the laws that say a reading without a state.
use Rattle.std.specs.Prelude.{Bool, cond, List, [], ◌∷◌}
use Rattle.std.proofs.Math.Option.{Option, none, some}
use Prim.Native.String.{String}
use Rattle.text.specs.Order.{equal}
use Rattle.text.specs.Utf8.{bytes}
use Rattle.settlement.specs.Document.{Doc, or_else}
use Rattle.settlement.specs.Shapes.{Means, unset, card, debit, transfers}
use Rattle.settlement.specs.Summation.{is_none}

-- whether an element has a name
unfoldable pub is_named : {N X : Type 0} → Doc N X → String → N → Bool
is_named D w n = equal (D.bytes (D.name n)) (bytes w)

-- the last that passes a test
unfoldable pub last_that : {N : Type 0} → (N → Bool) → List N → Option N
last_that t [] = none
last_that t (c ∷ cs) = or_else (last_that t cs) (cond (t c) (some c) none)

-- those before it, none where there is none
unfoldable pub before_last : {N : Type 0} → (N → Bool) → List N → List N
before_last t [] = []
before_last t (c ∷ cs) = cond (is_none (last_that t cs)) [] (c ∷ before_last t cs)

-- it and those behind it, all where there is none
unfoldable pub from_last : {N : Type 0} → (N → Bool) → List N → List N
from_last t [] = []
from_last t (c ∷ cs) = cond (is_none (last_that t cs)) (c ∷ cs) (from_last t cs)

-- the last child of a name
unfoldable pub last_named : {N X : Type 0} → Doc N X → String → List N → Option N
last_named D w cs = last_that (is_named D w) cs

-- what the first child that gives something gives
unfoldable pub first_given : {N A : Type 0} → (N → Option A) → List N → Option A
first_given f [] = none
first_given f (c ∷ cs) = or_else (f c) (first_given f cs)

-- a term of the direct debit (BG-19), absent beside any other means
abbrev pub of_debit : {X : Type 0} → Means X → Option X → Option X
of_debit unset o = none
of_debit (card a b) o = none
of_debit (debit a) o = o
of_debit transfers o = none
