-- The unmapped names of a reading are a sorted set: they ascend, each once, and are those that were met, each as it was met first.
use mathlib.Core.Path.{◌≡◌, refl, sym, ap, ◌∙◌}
use mathlib.Core.Bool.{true≢false}
use mathlib.Core.List.{List, [], ◌∷◌}
use mathlib.Core.Option.{Option, none, some}
use Prim.Native.Nat.{Ordering}
use Rattle.text.specs.Order.{opposite}
use Rattle.text.proofs.Orders.{order_is, order_turned, order_trans}
use Rattle.report.specs.Rows.{Unmapped}
use Rattle.settlement.specs.Document.{Doc, or_else}
use Rattle.settlement.specs.Shapes.{blank}
use Rattle.settlement.specs.Values.{Lent}
use Rattle.settlement.specs.Walk.{said, placed, insert, insert_all}
use Rattle.settlement.specs.Settlement.{step, strays_of, unmapped_key, unmapped_order, reading_of}
use Rattle.settlement.specs.Last.{first_given}
use Rattle.settlement.specs.Sorted.{if_same, Before, Ascending, first_same}
use Rattle.settlement.specs.Meetings.{met}
use Rattle.settlement.proofs.FirstWins.{or-none, or_join}
use Rattle.settlement.proofs.Meetings.{said_met}

module _ {A : Type 0} (c : A → A → Ordering) (turned : (a b : A) → c b a ≡ opposite (c a b)) (joined : (a b d : A) → c a b ≡ Ordering.eq → c b d ≡ Ordering.eq → c a d ≡ Ordering.eq) where
  -- what comes before u and before a list comes before the list with u in it
  before_insert : (w u : A) (l : List A) → c w u ≡ Ordering.lt → Before c w l → Before c w (insert c u l)
  unfolding insert
  before_insert w u [] e h = e
  before_insert w u (b ∷ l) e h = go (c u b)
    where
      go : (o : Ordering) → Before c w (placed c o u b l (insert c u l))
      go Ordering.lt = e
      go Ordering.eq = h
      go Ordering.gt = h

  pub insert_ascending : (u : A) (l : List A) → Ascending c l → Ascending c (insert c u l)
  unfolding insert
  insert_ascending u [] h = (tt, tt)
  insert_ascending u (w ∷ l) h = go (c u w) refl (insert_ascending u l h.1)
    where
      go : (o : Ordering) → c u w ≡ o → Ascending c (insert c u l) → Ascending c (placed c o u w l (insert c u l))
      go Ordering.lt e i = (e, h)
      go Ordering.eq e i = h
      go Ordering.gt e i = (before_insert w u l (turned u w ∙ ap opposite e) h.0, i)

  all_ascending : (l us : List A) → Ascending c l → Ascending c (insert_all c l us)
  unfolding insert_all
  all_ascending l [] h = h
  all_ascending l (u ∷ us) h = all_ascending (insert c u l) us (insert_ascending u l h)

  -- what comes before a list in order is not in it
  module _ (less : (a b d : A) → c a b ≡ Ordering.lt → c b d ≡ Ordering.lt → c a d ≡ Ordering.lt) where
    before_next : (a b : A) (l : List A) → c a b ≡ Ordering.lt → Before c b l → Before c a l
    before_next a b [] e h = tt
    before_next a b (d ∷ l) e h = less a b d e h

    before_none : (a : A) (l : List A) → Before c a l → Ascending c l → first_same c a l ≡ none
    unfolding first_same first_given
    before_none a [] h i = refl
    before_none a (b ∷ l) h i = ap (λ (o : Ordering). or_else (if_same o b) (first_same c a l)) h ∙ before_none a l (before_next a b l h i.0) i.1

    -- what is the same as one that comes before b comes before it, too
    same_before : (a u b : A) → c a u ≡ Ordering.eq → c u b ≡ Ordering.lt → c a b ≡ Ordering.lt
    same_before a u b e f = go (c a b) refl
      where
        back : c u a ≡ Ordering.eq
        back = turned a u ∙ ap opposite e

        go : (o : Ordering) → c a b ≡ o → o ≡ Ordering.lt
        go Ordering.lt q = refl
        go Ordering.eq q = let h : c u b ≡ Ordering.eq = joined u a b back q in absurd (true≢false cc)
        go Ordering.gt q = let h : c u a ≡ Ordering.lt = less u b a f (turned a b ∙ ap opposite q) in absurd (true≢false (cc back))

    -- what is put in is found where nothing that was there is the same
    first_insert : (a u : A) (l : List A) → Ascending c l → first_same c a (insert c u l) ≡ or_else (first_same c a l) (if_same (c a u) u)
    unfolding insert first_same first_given
    first_insert a u [] h = or-none (if_same (c a u) u)
    first_insert a u (b ∷ l) h = go (c u b) refl (first_insert a u l h.1)
      where
        there : Option A
        there = first_same c a (b ∷ l)

        ahead : (o : Ordering) → c a u ≡ o → c u b ≡ Ordering.lt → or_else (if_same o u) there ≡ or_else there (if_same o u)
        ahead Ordering.lt q e = sym (or-none there)
        ahead Ordering.eq q e = sym (ap (λ (t : Option A). or_else t (some u)) (before_none a (b ∷ l) (same_before a u b q e) h))
        ahead Ordering.gt q e = sym (or-none there)

        again : (o : Ordering) → c a u ≡ o → c u b ≡ Ordering.eq → there ≡ or_else there (if_same o u)
        again Ordering.lt q e = sym (or-none there)
        again Ordering.eq q e = found ∙ sym (ap (λ (t : Option A). or_else t (some u)) found)
          where
            found : there ≡ some b
            found = ap (λ (o : Ordering). or_else (if_same o b) (first_same c a l)) (joined a u b q e)
        again Ordering.gt q e = sym (or-none there)

        go : (o : Ordering) → c u b ≡ o → first_same c a (insert c u l) ≡ or_else (first_same c a l) (if_same (c a u) u) → first_same c a (placed c o u b l (insert c u l)) ≡ or_else there (if_same (c a u) u)
        go Ordering.lt e i = ahead (c a u) refl e
        go Ordering.eq e i = again (c a u) refl e
        go Ordering.gt e i = ap (or_else (if_same (c a b) b)) i ∙ sym (or_join (if_same (c a b) b) (first_same c a l) (if_same (c a u) u))

    -- of several that are the same, the first is found
    first_all : (a : A) (l us : List A) → Ascending c l → first_same c a (insert_all c l us) ≡ or_else (first_same c a l) (first_same c a us)
    unfolding insert_all first_same first_given
    first_all a l [] h = sym (or-none (first_same c a l))
    first_all a l (u ∷ us) h =
        first_all a (insert c u l) us (insert_ascending u l h)
        ∙ ap (λ (o : Option A). or_else o (first_same c a us)) (first_insert a u l h)
        ∙ or_join (first_same c a l) (if_same (c a u) u) (first_same c a us)

module _ {N X : Type 0} (L : Lent) (D : Doc N X) (cs : List N) where
  key_turned : (a b : Unmapped X) → unmapped_order D b a ≡ opposite (unmapped_order D a b)
  unfolding unmapped_order
  key_turned a b = order_turned (unmapped_key D a) (unmapped_key D b)

  key_joined : (a b d : Unmapped X) → unmapped_order D a b ≡ Ordering.eq → unmapped_order D b d ≡ Ordering.eq → unmapped_order D a d ≡ Ordering.eq
  unfolding unmapped_order
  key_joined a b d e f = rw (order_is (unmapped_key D a) (unmapped_key D b) e) f

  key_less : (a b d : Unmapped X) → unmapped_order D a b ≡ Ordering.lt → unmapped_order D b d ≡ Ordering.lt → unmapped_order D a d ≡ Ordering.lt
  unfolding unmapped_order
  key_less a b d = order_trans (unmapped_key D a) (unmapped_key D b) (unmapped_key D d)

  -- unmapped names ascend by parent, then by name, each pair once
  pub unmapped_ascends : Ascending (unmapped_order D) (reading_of L D cs).unmapped
  unfolding reading_of
  unmapped_ascends = all_ascending (unmapped_order D) key_turned key_joined [] (said (step L D) (strays_of L D) (blank X) cs) tt

  -- for each parent and name, the row is the first that was met, place and all; there is none where none was met
  pub unmapped_first : (a : Unmapped X) → first_same (unmapped_order D) a (reading_of L D cs).unmapped ≡ first_same (unmapped_order D) a (met D cs)
  unfolding reading_of
  unmapped_first a =
      first_all (unmapped_order D) key_turned key_joined key_less a [] (said (step L D) (strays_of L D) (blank X) cs) tt
      ∙ unfold first_same first_given in ap (first_same (unmapped_order D) a) (said_met L D (blank X) cs)
