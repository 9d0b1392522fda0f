-- Laws of the search of a range for the first record that passes a test.
use mathlib.Core.Path.{◌≡◌, refl, sym, ap, ◌∙◌}
use mathlib.Core.Bool.{Bool, true, false, cond, ◌||◌}
use mathlib.Core.List.{List}
use mathlib.Core.Option.{Option, none, some}
use Prim.Native.Nat.{ℕ, zero, suc, ◌+◌, ◌-◌, ◌≤◌, ◌<◌}
use native.Mathlib.Omega.{arith}
use native.Mathlib.Decide.{ℕ_discrete}
use Rattle.std.proofs.Common.{add-one}
use denote.Param.Members.{Mut}
use denote.Ref.{Bor}
use Rattle.std.proofs.iter.Yields.{nat_range_steps}
use Rattle.std.proofs.lemmas.Iterator.{YieldsList-from_range}
use Rattle.std.proofs.lemmas.Iterator.Search.{find_from_yields_List, any_from_yields_List}
use Rattle.std.specs.Bool.{⊤}
use Rattle.std.specs.Fn.{Called, CalledAt}
use Rattle.std.specs.Iterator.{YieldsThen}
use Rattle.std.specs.List.{FoldsTo, range_with_len, find, list_any}
use Rattle.std.specs.Option.{MatchOption, option_map}
use Rattle.std.specs.Prelude.{Some, None}
use Rattle.std.specs.declared.ops.Range.{Range}
use Rattle.std.specs.declared.option.Option as code
use Rattle.text.specs.Options.{option_of}
use Rattle.table.specs.Table.{first_from}

-- the search from j on that is a whole search: a turn that goes on, one that finds, and the end
module _ (p : ℕ → Bool) (n j : ℕ) (o : Option ℕ) (e : o ≡ first_from p j (n - j)) where
  pub scan_on : j < n → (b : Bool) → b ≡ p j → b ≡ false → o ≡ first_from p (j + 1) (n - (j + 1))
  unfolding first_from
  scan_on h b q f =
      let m : n - j ≡ suc (n - (j + 1)) = omega arith in
      let s : suc j ≡ j + 1 = omega arith in
      e ∙ rw (m, ← q, f, s)

  pub scan_hit : j < n → (b : Bool) → b ≡ p j → b ≡ true → some j ≡ o
  unfolding first_from
  scan_hit h b q f =
      let m : n - j ≡ suc (n - (j + 1)) = omega arith in
      sym (e ∙ rw (m, ← q, f))

  pub scan_end : n ≤ j → none ≡ o
  unfolding first_from
  scan_end h =
      let m : n - j ≡ 0 = omega arith in
      sym (e ∙ rw m)

-- where none is found none passes
pub none_offends : (p : ℕ → Bool) (m j : ℕ) → first_from p j m ≡ none → (k : ℕ) → j ≤ k → k < j + m → p k ≡ false
unfolding first_from
none_offends p zero j e k h h' = absurd (omega arith)
none_offends p (suc m) j e k h h' = go (p j) refl e (none_offends p m (suc j))
  where
    go : (b : Bool) → p j ≡ b → cond b (some j) (first_from p (suc j) m) ≡ none → (first_from p (suc j) m ≡ none → (k : ℕ) → suc j ≤ k → k < suc j + m → p k ≡ false) → p k ≡ false
    go true q f r = cc
    go false q f r = elim (ℕ_discrete k j) [ yes z ↦ rw z q | no z ↦ r f k (omega arith) (omega arith) ]

pub all_pass : (p : ℕ → Bool) (m j : ℕ) → ((k : ℕ) → j ≤ k → k < j + m → p k ≡ false) → first_from p j m ≡ none
unfolding first_from
all_pass p zero j f = refl
all_pass p (suc m) j f = rw (f j (omega arith) (omega arith)) (all_pass p m (suc j) (λ k h h'. f k (omega arith) (omega arith)))

-- the first that passes does so, and none before it
pub first_offends : (p : ℕ → Bool) (m j r : ℕ) → first_from p j m ≡ some r → (p r ≡ true) × ((k : ℕ) → j ≤ k → k < r → p k ≡ false)
unfolding first_from
first_offends p zero j r e = cc
first_offends p (suc m) j r e = go (p j) refl e (first_offends p m (suc j) r)
  where
    go : (b : Bool) → p j ≡ b → cond b (some j) (first_from p (suc j) m) ≡ some r →
        (first_from p (suc j) m ≡ some r → (p r ≡ true) × ((k : ℕ) → suc j ≤ k → k < r → p k ≡ false)) →
        (p r ≡ true) × ((k : ℕ) → j ≤ k → k < r → p k ≡ false)
    go true q f s = let z : j ≡ r = cc in (rw z at q, λ k h h'. absurd (omega arith))
    go false q f s = let u = s f in (u.0, λ k h h'. elim (ℕ_discrete k j) [ yes z ↦ rw z q | no z ↦ u.1 k (omega arith) h' ])

-- the first of the numbers of a range is the first record
pub find_range : (p : ℕ → Bool) (m j : ℕ) → option_of (find p (range_with_len j m)) ≡ first_from p j m
unfolding first_from
find_range p zero j = refl
find_range p (suc m) j = go (p j) (find_range p m (suc j))
  where
    go : (b : Bool) → option_of (find p (range_with_len (suc j) m)) ≡ first_from p (suc j) m → option_of (cond b (Some j) (find p (range_with_len (j + 1) m))) ≡ cond b (some j) (first_from p (suc j) m)
    go true e = refl
    go false e = rw add-one e

-- what `find` answers over a range
pub first_in_range : {F : Type 0} {g : Mut F (Bor ℕ × Unit {0}) Bool} (p : ℕ → Bool) (s u : Range ℕ) (f : F) (r : code.Option ℕ) →
    (xs : List ℕ) × (j : F) × YieldsThen nat_range_steps s xs r u × FoldsTo (λ p x q. CalledAt g p x false q) f xs j × MatchOption r ⊤ (λ x. (h : F) × CalledAt g j x true h) →
    ((x : ℕ) (b : Bool) (q : F) → CalledAt g f x b q → (q ≡ f) × (b ≡ p x)) → option_of r ≡ first_from p s.start (s.end - s.start)
first_in_range p s u f r e h =
    ap option_of (same r ∙ find_from_yields_List p u f r e (YieldsList-from_range s.start s.end (s.end - s.start) refl refl) h) ∙ find_range p (s.end - s.start) s.start
  where
    same : (r : code.Option ℕ) → r ≡ option_map (λ (x : ℕ). x) r
    same (Some x) = refl
    same None = refl

any_range : (p : ℕ → Bool) (m j : ℕ) → list_any p (range_with_len j m) ≡ false → first_from p j m ≡ none
unfolding first_from
any_range p zero j e = refl
any_range p (suc m) j e = go (p j) e (any_range p m (suc j))
  where
    go : (b : Bool) → b || list_any p (range_with_len (j + 1) m) ≡ false → (list_any p (range_with_len (suc j) m) ≡ false → first_from p (suc j) m ≡ none) → cond b (some j) (first_from p (suc j) m) ≡ none
    go true e f = cc
    go false e f = f (rw add-one at e)

-- where `any` answers no over a range
pub none_in_range : {F : Type 0} {g : Mut F (ℕ × Unit {0}) Bool} (p : ℕ → Bool) (s u : Range ℕ) (f : F) (r : Bool) →
    (xs : List ℕ) × (o : code.Option ℕ) × (j : F) × YieldsThen nat_range_steps s xs o u × FoldsTo (λ p x q. Called g p (x, tt) false q) f xs j × MatchOption o (r ≡ false) (λ x. (r ≡ true) × ((h : F) × Called g j (x, tt) true h)) →
    ((x : ℕ) (b : Bool) (q : F) → Called g f (x, tt) b q → (q ≡ f) × (b ≡ p x)) → r ≡ false → first_from p s.start (s.end - s.start) ≡ none
none_in_range p s u f r e h z = any_range p (s.end - s.start) s.start (sym (any_from_yields_List p u f r e (YieldsList-from_range s.start s.end (s.end - s.start) refl refl) h) ∙ z)
