-- Laws of the place of a byte.
use Rattle.std.proofs.Common.{◌≡◌, ℕ, ◌+◌, ◌≤◌, cond, Option, Some, None, true, false, List, [], ◌∷◌, eqb, length, refl, unwrap_or, arith, ltb, ltb-false, ◌-◌, min, ap, ◌∙◌, length-take, length-drop}
use Rattle.std.specs.List.{position, position_or_len}
use Rattle.std.specs.Bool.{◌==◌}
use Rattle.std.proofs.lemmas.List.Recursion.{is_position_or_len}
use Rattle.cases.specs.Places.{index_of, slice}

index_in : (b : ℕ) (s : List ℕ) → index_of b s ≤ length s
unfolding index_of
index_in b [] = omega arith
index_in b (c ∷ s) = elim (eqb c b) as (λ t. cond t 0 (1 + index_of b s) ≤ length (c ∷ s)) [ true ↦ omega arith | false ↦ omega (arith, index_in b s) ]

-- the first b is at the first place that passes
first_place : (b : ℕ) (s : List ℕ) → unwrap_or (position (λ c. c == b) s) (length s) ≡ index_of b s
unfolding index_of
first_place b s =
    let i : index_of b s ≡ position_or_len (λ c. c == b) s = is_position_or_len (index_of b) (λ c. c == b) refl (λ c t. refl) s in
    let l = index_in b s in
    rw (← i) (elim (ltb (index_of b s) (length s)) as (λ t. ltb (index_of b s) (length s) ≡ t → unwrap_or (cond t (Some (index_of b s)) None) (length s) ≡ index_of b s) [ true ↦ λ q. refl | false ↦ λ q. omega (arith, l, ltb-false _ _ q) ] refl)

-- k is the place of the first b from a place on, and within the text or past it
pub record Found (s : List ℕ) (from b k : ℕ) : Type 0 where
  pub place : k ≡ index_of b (slice from (length s) s)
  pub within : k ≤ length s - from

pub found : (s : List ℕ) (from b : ℕ) (t : List ℕ) (r : Option ℕ) (k : ℕ) → t ≡ slice from (length s) s → r ≡ position (λ c. c == b) t → k ≡ unwrap_or r (length t) → Found s from b k
found s from b t r k e p u =
    let i : k ≡ index_of b t = u ∙ rw p (first_place b t) in
    let l : length t ≡ min (length s - from) (length s - from) = ap length e ∙ rw (length-take, length-drop) refl in
    record { place = i ∙ ap (index_of b) e; within = omega (arith, i, l, index_in b t) }
