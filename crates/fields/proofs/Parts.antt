-- Laws of bytes that a loop puts part by part.
use mathlib.Core.Path.{◌≡◌, refl, sym, subst, ◌∙◌}
use mathlib.Core.List.{List, [], ◌++◌, append_assoc, append-nil}
use Prim.Native.Nat.{ℕ}
use Rattle.report.specs.Placed.{Placed}
use Rattle.report.proofs.Placing.{placed_none, placed_then}
use Rattle.decimals.specs.Puts.{Puts}
use Rattle.decimals.specs.declared.line.Line.{Line}

-- some of these elements were put at a place of one list, which made the other: the rest go to the next place
pub record Partly {A : Type 0} (before : List A) (at : ℕ) (all after : List A) (next : ℕ) (rest : List A) : Type 0 where
  pub done : List A
  pub placed : Placed before at done after next
  pub whole : done ++ rest ≡ all

-- a loop that puts all of them, part by part: its start, a turn, and its end
module _ {A : Type 0} where
  pub partly_none : (l : List A) (at : ℕ) (all : List A) → Partly l at all l at all
  partly_none l at all = record { done = []; placed = placed_none l at; whole = refl }

  pub partly_then : {l all m n vs rest : List A} {at a b : ℕ} → Partly l at all m a (vs ++ rest) → Placed m a vs n b → Partly l at all n b rest
  partly_then {l} {all} {m} {n} {vs} {rest} p q =
      record { done = p.done ++ vs; placed = placed_then p.placed q; whole = append_assoc p.done vs rest ∙ p.whole }

  pub partly_all : {l all m : List A} {at a : ℕ} → Partly l at all m a [] → Placed l at all m a
  partly_all {l} {all} {m} {at} {a} p = subst (λ (vs : List A). Placed l at vs m a) (sym (append-nil p.done) ∙ p.whole) p.placed

-- the same of the line that is being written
pub record PutSome (all : List ℕ) (before after : Line) (rest : List ℕ) : Type 0 where
  pub same : after.out.ghost_name ≡ before.out.ghost_name
  pub part : Partly before.out.now before.at all after.out.now after.at rest

pub some_none : (all : List ℕ) (l : Line) → PutSome all l l all
some_none all l = record { same = refl; part = partly_none l.out.now l.at all }

pub some_then : {all s rest : List ℕ} {l m n : Line} → PutSome all l m (s ++ rest) → Puts s m n → PutSome all l n rest
some_then p q = record { same = q.same ∙ p.same; part = partly_then p.part q.placed }

pub some_all : {all : List ℕ} {l m : Line} → PutSome all l m [] → Puts all l m
some_all p = record { same = p.same; placed = partly_all p.part }
