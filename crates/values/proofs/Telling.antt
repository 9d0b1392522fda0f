-- Laws of entries that are said one after another.
use mathlib.Core.Path.{◌≡◌, refl, ap, ◌∙◌}
use mathlib.Core.List.{List, [], ◌∷◌, ◌++◌}
use mathlib.Core.Option.{Option}
use lib.IntN.{ℤ, pos}
use Rattle.report.specs.Rows.{Place, Entry}
use Rattle.report.specs.Encoding.{entry_row}
use Rattle.report.specs.Placed.{Placed}
use Rattle.report.proofs.RowsOf.{rows_none, rows_one, rows-then}
use Rattle.settlement.specs.Document.{or}
use Rattle.settlement.specs.Values.{Says}
use Rattle.values.specs.Told.{Said, Told}
use Rattle.values.specs.declared.saying.Entries.{Entries}

-- one entry's row
pub said_one : {e : Entry Place} {a b : Entries} → b.list.ghost_name ≡ a.list.ghost_name → Placed a.list.now a.at (entry_row e) b.list.now b.at → Said (e ∷ []) a b
said_one {e} same p = record { same = same; rows = rows_one entry_row e p }

-- nothing is said
pub said_none : (a : Entries) → Said [] a a
said_none a = record { same = refl; rows = rows_none entry_row a.list.now a.at }

-- one after the other
pub said_then : {es fs : List (Entry Place)} {a b c : Entries} → Said es a b → Said fs b c → Said (es ++ fs) a c
said_then {es} {fs} p q = record { same = q.same ∙ p.same; rows = rows-then entry_row es fs p.rows q.rows }

-- a value of which there is nothing to say
pub told_silent : {A : Type 0} {v : A} (a : Entries) → Told (v, []) a v a
told_silent a = record { same = refl; said = said_none a }

-- a value with what was said
pub told_said : {A : Type 0} {v : A} {es : List (Entry Place)} {a b : Entries} → Said es a b → Told (v, es) a v b
told_said p = record { same = refl; said = p }

-- of two readings that are the same
pub told_as : {A : Type 0} {s s' : Says Place A} {a b : Entries} {v : A} → s ≡ s' → Told s a v b → Told s' a v b
told_as e p = rw (← e) p

-- a required amount: 0 where it failed
pub told_or_zero : {s : Says Place (Option ℤ)} {a b : Entries} {v : Option ℤ} {z : ℤ} → Told s a v b → z ≡ or (pos 0) v → Told (or (pos 0) s.0, s.1) a z b
told_or_zero p e = record { same = e ∙ ap (or (pos 0)) p.same; said = p.said }

-- one entry first
pub told_after : {A : Type 0} {e : Entry Place} {s : Says Place A} {a b c : Entries} {v : A} → Said (e ∷ []) a b → Told s b v c → Told (s.0, e ∷ s.1) a v c
told_after p q = record { same = q.same; said = said_then p q.said }
