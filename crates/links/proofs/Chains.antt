-- The turns of the loop that fills links, those of loops over the list that they spell, at record c with `left` steps to go, and what `find` answers over an iterator.
use mathlib.Core.Path.{◌≡◌, refl, sym, ap, ◌∙◌}
use mathlib.Core.Logic.{◌≢◌, ◌⊎◌, inl, inr}
use mathlib.Core.Bool.{Bool, true, false, cond, ◌&&◌}
use mathlib.Core.List.{List, [], ◌∷◌, foldl}
use mathlib.Core.Option.{Option, some}
use Prim.Native.Nat.{ℕ, zero, suc, ◌*◌, ◌-◌, ◌/◌, ◌≤◌, ◌<◌}
use native.Mathlib.Omega.{arith}
use borrow.Author.Tests.{ne_eqb, le-leb, lt-leb}
use lib.Dec.{leb}
use lib.ListN.{length}
use denote.Param.Members.{Mut}
use denote.Ref.{Bor}
use Rattle.std.proofs.lemmas.Iterator.Consumers.{YieldsList-from_first}
use Rattle.std.proofs.lemmas.Iterator.Search.{find_from_yields_List}
use Rattle.std.specs.Bool.{⊤}
use Rattle.std.specs.Fn.{CalledAt}
use Rattle.std.specs.Iterator.{YieldsThen, YieldsFirst}
use Rattle.std.specs.List.{FoldsTo, find}
use Rattle.std.specs.Option.{MatchOption, option_map}
use Rattle.std.specs.Prelude.{Some, None}
use Rattle.std.specs.declared.option.Option as code
use Rattle.text.specs.Options.{option_of}
use Rattle.table.specs.Table.{records, cell, first_of}
use Rattle.links.specs.Siblings.{siblings}
use Rattle.links.specs.declared.siblings.Siblings.{Siblings}
use Rattle.links.specs.Links.{link, chain, linked, in_front, joins, link_one, link_below, roomy, link_all}

-- one record linked, or passed over
module _ (t l : List ℕ) (j kind p : ℕ) (k : kind ≡ cell t j 0) (q : p ≡ cell t j 1) (b : Bool) (e : b ≡ joins kind p j) where
  pub one_joins : b ≡ true → (l' : List ℕ) → l' ≡ in_front l (kind - 1) p j → l' ≡ link_one t j l
  unfolding link_one
  one_joins f l' u = u ∙ rw (← k, ← q, ← e, f)

  pub one_not : b ≡ false → l ≡ link_one t j l
  unfolding link_one
  one_not f = rw (← k, ← q, ← e, f)

-- the loop that fills the array, from j down
module _ (t E : List ℕ) (j : ℕ) (l : List ℕ) (e : E ≡ link_below t j l) where
  pub fill_on : 0 < j → (l' : List ℕ) → l' ≡ link_one t (j - 1) l → E ≡ link_below t (j - 1) l'
  unfolding link_below
  fill_on h l' q = e ∙ go j h q
    where
      go : (j : ℕ) → 0 < j → l' ≡ link_one t (j - 1) l → link_below t j l ≡ link_below t (j - 1) l'
      go zero h q = absurd (omega arith)
      go (suc j) h q = let s : suc j - 1 ≡ j = omega arith in rw (q, s)

  pub fill_end : j ≤ 0 → l ≡ E
  unfolding link_below
  fill_end h = let z : j ≡ 0 = omega arith in sym (e ∙ rw z)

-- room, and none
module _ (t l : List ℕ) where
  pub link_roomy : records t * 3 ≤ length l → records t ≤ 65536 → (r : List ℕ) → r ≡ link_below t (records t) l → r ≡ link_all t l
  unfolding link_all roomy
  link_roomy h h' r e = e ∙ rw (le-leb (records t * 3) (length l) h, le-leb (records t) 65536 h')

  pub link_cramped : (length l < records t * 3) ⊎ (65536 < records t) → l ≡ link_all t l
  unfolding link_all roomy
  link_cramped (inl h) = rw (lt-leb (records t * 3) (length l) h)
  link_cramped (inr h) = go (leb (records t * 3) (length l))
    where
      go : (b : Bool) → l ≡ cond (b && leb (records t) 65536) (link_below t (records t) l) l
      go true = rw (lt-leb (records t) 65536 h)
      go false = refl

-- every loop over a chain
module _ (links : List ℕ) where
  pub chain_start : (k i c : ℕ) → c ≡ link links i k → linked links k i ≡ chain links (length links / 3) c
  unfolding linked
  chain_start k i c e = rw e

  pub chain_turn : (f c : ℕ) → 0 < f → c ≢ 0 → chain links f c ≡ c ∷ chain links (f - 1) (link links c 2)
  unfolding chain
  chain_turn zero c h z = absurd (omega arith)
  chain_turn (suc f) c h z = rw (ne_eqb c 0 z) (ap (λ (g : ℕ). c ∷ chain links g (link links c 2)) {x = f} {y = suc f - 1} (omega arith))

  pub chain_zero : (f : ℕ) → chain links f 0 ≡ []
  unfolding chain
  chain_zero zero = refl
  chain_zero (suc f) = refl

  pub chain_out : (c : ℕ) → chain links 0 c ≡ []
  unfolding chain
  chain_out c = refl

-- a walk with a state s
module _ {S : Type 0} (f : S → ℕ → S) (links : List ℕ) where
  module _ (o s : S) (left c : ℕ) (e : o ≡ foldl f s (chain links left c)) where
    pub fold_turn : 0 < left → c ≢ 0 → (s' : S) → s' ≡ f s c → (d : ℕ) → d ≡ link links c 2 → o ≡ foldl f s' (chain links (left - 1) d)
    fold_turn h z s' q d u = e ∙ rw (chain_turn links left c h z, q, u)

-- a search that goes on to the next record
module _ (links : List ℕ) (p : ℕ → Bool) (o : Option ℕ) (left c : ℕ) (e : o ≡ first_of p (chain links left c)) where
  pub search_turn : 0 < left → c ≢ 0 → (b : Bool) → b ≡ p c → b ≡ false → (d : ℕ) → d ≡ link links c 2 → o ≡ first_of p (chain links (left - 1) d)
  unfolding first_of
  search_turn h z b q f d u = e ∙ rw (chain_turn links left c h z, ← q, f, u)

-- what `find` answers over the list that links spell
chain_found : (p : ℕ → Bool) (cs : List ℕ) → option_of (find p cs) ≡ first_of p cs
unfolding first_of
chain_found p [] = refl
chain_found p (c ∷ cs) = go (p c) (chain_found p cs)
  where
    go : (b : Bool) → option_of (find p cs) ≡ first_of p cs → option_of (cond b (Some c) (find p cs)) ≡ cond b (some c) (first_of p cs)
    go true e = refl
    go false e = e

-- what `find` answers over an iterator
pub first_sibling : {F : Type 0} {g : Mut F (Bor ℕ × Unit {0}) Bool} (p : ℕ → Bool) (s u : Siblings) (f : F) (r : code.Option ℕ) →
    (xs : List ℕ) × (j : F) × YieldsThen (YieldsFirst siblings) s xs r u × FoldsTo (λ p x q. CalledAt g p x false q) f xs j × MatchOption r ⊤ (λ x. (h : F) × CalledAt g j x true h) →
    ((x : ℕ) (b : Bool) (q : F) → CalledAt g f x b q → (q ≡ f) × (b ≡ p x)) → option_of r ≡ first_of p (siblings s)
first_sibling p s u f r e h =
    ap option_of (same r ∙ find_from_yields_List p u f r e (YieldsList-from_first (λ x. x) siblings (siblings s) refl) h) ∙ chain_found p (siblings s)
  where
    same : (r : code.Option ℕ) → r ≡ option_map (λ (x : ℕ). x) r
    same (Some x) = refl
    same None = refl
