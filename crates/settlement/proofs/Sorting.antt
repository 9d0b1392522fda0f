-- Insertion by a total order: the order in which elements come does not matter.
use mathlib.Core.Path.{◌≡◌, refl, sym, ap, ◌∙◌}
use mathlib.Core.List.{List, [], ◌∷◌, foldl-append}
use Prim.Native.Nat.{Ordering}
use Rattle.text.specs.Order.{opposite}
use Rattle.settlement.specs.Walk.{placed, insert, insert_all}
use Rattle.settlement.proofs.Walks.{Crossed}

pub record Total {A : Type 0} (c : A → A → Ordering) : Type 0 where
  pub turned : (a b : A) → c b a ≡ opposite (c a b)
  pub same : (a b : A) → c a b ≡ Ordering.eq → a ≡ b
  pub trans : (a b d : A) → c a b ≡ Ordering.lt → c b d ≡ Ordering.lt → c a d ≡ Ordering.lt

module _ {A : Type 0} (c : A → A → Ordering) (t : Total c) where
  down : {a b : A} → c a b ≡ Ordering.gt → c b a ≡ Ordering.lt
  down {a} {b} h = t.turned a b ∙ ap opposite h

  up : {a b : A} → c a b ≡ Ordering.lt → c b a ≡ Ordering.gt
  up {a} {b} h = t.turned a b ∙ ap opposite h

  swap_at : (a b w : A) (l : List A) (oa ob oc : Ordering) → c a w ≡ oa → c b w ≡ ob → c a b ≡ oc → insert c a (insert c b l) ≡ insert c b (insert c a l) → insert c a (insert c b (w ∷ l)) ≡ insert c b (insert c a (w ∷ l))
  unfolding insert
  swap_at a b w l Ordering.lt Ordering.lt Ordering.lt ea eb ec h = simp (ea, eb, ec, up ec)
  swap_at a b w l Ordering.lt Ordering.lt Ordering.eq ea eb ec h = let e : a ≡ b = t.same a b ec in ap (λ x. insert c x (insert c b (w ∷ l))) e ∙ sym (ap (λ x. insert c b (insert c x (w ∷ l))) e)
  swap_at a b w l Ordering.lt Ordering.lt Ordering.gt ea eb ec h = simp (ea, eb, ec, down ec)
  swap_at a b w l Ordering.eq Ordering.lt oc ea eb ec h = let e : c a b ≡ Ordering.gt = rw (t.same a w ea) (up eb) in simp (ea, eb, e)
  swap_at a b w l Ordering.gt Ordering.lt oc ea eb ec h = let e : c a b ≡ Ordering.gt = up (t.trans b w a eb (down ea)) in simp (ea, eb, e)
  swap_at a b w l Ordering.lt Ordering.eq oc ea eb ec h = let e : c b a ≡ Ordering.gt = rw (t.same b w eb) (up ea) in simp (ea, eb, e)
  swap_at a b w l Ordering.eq Ordering.eq oc ea eb ec h = simp (ea, eb)
  swap_at a b w l Ordering.gt Ordering.eq oc ea eb ec h = simp (ea, eb)
  swap_at a b w l Ordering.lt Ordering.gt oc ea eb ec h = let e : c b a ≡ Ordering.gt = up (t.trans a w b ea (down eb)) in simp (ea, eb, e)
  swap_at a b w l Ordering.eq Ordering.gt oc ea eb ec h = simp (ea, eb)
  swap_at a b w l Ordering.gt Ordering.gt oc ea eb ec h = simp (ea, eb, h)

  insert_swap : (a b : A) (l : List A) → insert c a (insert c b l) ≡ insert c b (insert c a l)
  unfolding insert
  insert_swap a b [] = go (c a b) refl
    where
      go : (o : Ordering) → c a b ≡ o → placed c (c a b) a b [] (a ∷ []) ≡ placed c (c b a) b a [] (b ∷ [])
      go Ordering.lt e = simp (e, up e)
      go Ordering.eq e = rw (t.same a b e)
      go Ordering.gt e = simp (e, down e)
  insert_swap a b (w ∷ l) = swap_at a b w l (c a w) (c b w) (c a b) refl refl refl (insert_swap a b l)

  one_swap : (a : A) (l p : List A) → insert_all c (insert c a l) p ≡ insert c a (insert_all c l p)
  unfolding insert_all
  one_swap a l [] = refl
  one_swap a l (b ∷ p) = ap (λ (m : List A). insert_all c m p) (insert_swap b a l) ∙ one_swap a (insert c b l) p

  blocks_swap : (l p q : List A) → insert_all c (insert_all c l p) q ≡ insert_all c (insert_all c l q) p
  unfolding insert_all
  blocks_swap l [] q = refl
  blocks_swap l (a ∷ p) q = blocks_swap (insert c a l) p q ∙ ap (λ (m : List A). insert_all c m p) (one_swap a l q)

  pub crossed_sorted : (l : List A) {p q m n : List A} → Crossed p q m n → insert_all c l m ≡ insert_all c l n
  unfolding insert_all
  crossed_sorted l {p} {q} x =
      rw (x.left, x.right)
      (simp (foldl-append (λ (m : List A) (u : A). insert c u m)) (ap (λ (m : List A). insert_all c m x.after) (blocks_swap (insert_all c l x.before) p q)))
