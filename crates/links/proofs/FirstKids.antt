-- Laws of the first child of each name: that one pass keeps what a look-up by name finds.
use mathlib.Core.Path.{◌≡◌, refl, sym, ◌∙◌}
use mathlib.Core.Logic.{◌≢◌}
use mathlib.Core.Bool.{Bool, true, false, cond, ◌&&◌}
use mathlib.Core.List.{List, [], ◌∷◌, map, foldl}
use mathlib.Core.Option.{Option, none, some}
use Prim.Native.Nat.{ℕ, ◌<◌}
use borrow.Author.Tests.{lt-ltb, eq-eqb, eqb-true}
use lib.Dec.{ltb, eqb}
use lib.ListN.{length, get_or, set, replicate, length-set, length-replicate, get_or-replicate}
use lib.Seq.{get_or-set_same, get_or-set_other}
use denote.Ref.{Bor}
use Rattle.std.specs.Option.{unwrap_or}
use Rattle.std.specs.Prelude.{Some, None, is_none, position}
use Rattle.std.specs.declared.option.Option as code
use Rattle.text.specs.Options.{option_of}
use Rattle.text.specs.Order.{equal}
use Rattle.text.specs.Place.{place}
use Rattle.text.proofs.Bools.{not_both}
use Rattle.text.proofs.Places.{place_test, position_is}
use Rattle.table.specs.Table.{name_of, named, first_of}
use Rattle.links.specs.Links.{linked}
use Rattle.links.specs.Firsts.{keep, keep_one, keep_all}

-- what is kept, or else this
abbrev or_this : code.Option ℕ → ℕ → code.Option ℕ
or_this None c = Some c
or_this (Some g) c = Some g

-- what is kept, or else the first of the rest
abbrev or_first : code.Option ℕ → Option ℕ → Option ℕ
or_first None o = o
or_first (Some g) o = some g

-- a child is kept, or not
module _ (ks : List (code.Option ℕ)) (k c : ℕ) where
  keep_length : length (keep ks k c) ≡ length ks
  unfolding keep
  keep_length = go (ltb k (length ks) && is_none (get_or ks k None))
    where
      go : (b : Bool) → length (cond b (set ks k (Some c)) ks) ≡ length ks
      go true = length-set ks k (Some c)
      go false = refl

  -- another number stays
  keep_other : (j : ℕ) → j ≢ k → get_or (keep ks k c) j None ≡ get_or ks j None
  unfolding keep
  keep_other j h = go (ltb k (length ks) && is_none (get_or ks k None))
    where
      go : (b : Bool) → get_or (cond b (set ks k (Some c)) ks) j None ≡ get_or ks j None
      go true = get_or-set_other ks k j (Some c) None h
      go false = refl

  keep_same : k < length ks → get_or (keep ks k c) k None ≡ or_this (get_or ks k None) c
  unfolding keep
  keep_same h = rw (lt-ltb k (length ks) h) (go (get_or ks k None) refl)
    where
      go : (g : code.Option ℕ) → get_or ks k None ≡ g → get_or (cond (is_none g) (set ks k (Some c)) ks) k None ≡ or_this g c
      go None p = get_or-set_same ks k (Some c) None h
      go (Some g) p = p

-- the loop over the children, at a child c with those behind it left, its name's place by `position_of`
module _ (t x : List ℕ) (ns : List (Bor (List ℕ))) (ks : List (code.Option ℕ)) {E : List (code.Option ℕ)} {cs : List ℕ} (e : E ≡ foldl (keep_one t x (map (λ w. w.now) ns)) ks cs) where
  pub keep_turn :
      {c k : ℕ} {ds s : List ℕ} {o : code.Option ℕ} {ks' : List (code.Option ℕ)} → cs ≡ c ∷ ds → s ≡ name_of t x c → o ≡ position (λ w. equal s w.now) ns → k ≡ unwrap_or o (length ns) → ks' ≡ keep ks k c →
      E ≡ foldl (keep_one t x (map (λ w. w.now) ns)) ks' ds
  keep_turn {c} {s = s} q n p u v = e ∙ rw (q, v, position_is s ns p u, n) refl

found_or : (g : code.Option ℕ) → option_of g ≡ or_first g none
found_or None = refl
found_or (Some g) = refl

-- a child c at the place (a) or elsewhere
turn : (c : ℕ) (g : code.Option ℕ) (a : Bool) (o : Option ℕ) → or_first (cond a (or_this g c) g) o ≡ or_first g (cond a (some c) o)
turn c None true o = refl
turn c None false o = refl
turn c (Some g) true o = refl
turn c (Some g) false o = refl

module _ (t x l : List ℕ) (ws : List (List ℕ)) (v : List ℕ) (k : ℕ) (e : place ws v ≡ k) (h : k < length ws) where
  abbrev at : ℕ → ℕ
  at c = place ws (name_of t x c)

  at_place : (ks : List (code.Option ℕ)) (c : ℕ) → k < length ks → get_or (keep ks (at c) c) k None ≡ cond (eqb (at c) k) (or_this (get_or ks k None) c) (get_or ks k None)
  at_place ks c b = go (eqb (at c) k) refl
    where
      go : (a : Bool) → eqb (at c) k ≡ a → get_or (keep ks (at c) c) k None ≡ cond a (or_this (get_or ks k None) c) (get_or ks k None)
      go true p = let i : at c ≡ k = eqb-true (at c) k p in rw i (keep_same ks k c b)
      go false p = keep_other ks (at c) c k (λ i. not_both (eq-eqb (at c) k (sym i)) p)

  -- what is kept at place k: what was there, or else the first of the rest
  kept_first : (cs : List ℕ) (ks : List (code.Option ℕ)) → k < length ks → option_of (get_or (foldl (keep_one t x ws) ks cs) k None) ≡ or_first (get_or ks k None) (first_of (named t x v) cs)
  unfolding first_of named
  kept_first [] ks b = found_or (get_or ks k None)
  kept_first (c ∷ cs) ks b =
      kept_first cs (keep ks (at c) c) (rw (keep_length ks (at c) c) b)
      ∙ rw (at_place ks c b, ← place_test ws v k e h (name_of t x c)) (turn c (get_or ks k None) (eqb (at c) k) (first_of (named t x v) cs))

  -- in an array where nothing is kept yet
  pub first_of_each : (i n : ℕ) → k < n → option_of (get_or (keep_all t x l i ws (replicate n None)) k None) ≡ first_of (named t x v) (linked l 0 i)
  unfolding keep_all
  first_of_each i n b = kept_first (linked l 0 i) (replicate n None) (rw length-replicate b) ∙ rw (get_or-replicate) refl
