-- The links spell the children and the attributes.
use mathlib.Core.Path.{◌≡◌, refl, sym, ap, ◌∙◌, fun_ext}
use mathlib.Core.Logic.{◌≢◌}
use mathlib.Core.Bool.{Bool, true, false, cond, ◌&&◌, ◌||◌, true≢false}
use mathlib.Core.List.{List, [], ◌∷◌}
use Prim.Native.Nat.{ℕ, zero, suc, ◌+◌, ◌*◌, ◌-◌, ◌/◌, ◌≤◌, ◌<◌}
use native.Mathlib.Omega.{arith}
use native.Mathlib.Decide.{ℕ_discrete, dec_lt}
use borrow.Author.Tests.{ne_eqb, eq-eqb, eqb-true, lt-ltb, ltb-true, le-leb, leb-true}
use lib.Dec.{ltb, leb, eqb}
use lib.ListN.{length, set, replicate, length-set, length-replicate, get_or-replicate, get_or-eq_default}
use lib.Seq.{get_or-set_same, get_or-set_other}
use Rattle.text.proofs.Bools.{both}
use Rattle.table.specs.Table.{records, cell, kin, below, kids, attrs}
use Rattle.table.proofs.Kin.{kin_parts, kin_is, not_kin, from, below_from}
use Rattle.links.specs.Links.{link, chain, linked, in_front, joins, link_one, link_below, roomy, link_all, Blank}

-- a record that joins
pub record Joined (kind p j : ℕ) : Type 0 where
  pub some_kind : 1 ≤ kind
  pub known_kind : kind ≤ 2
  pub earlier : p < j

pub joined : (kind p j : ℕ) (b : Bool) → b ≡ joins kind p j → b ≡ true → Joined kind p j
unfolding joins
joined kind p j b q f = go (eqb kind 1) (eqb kind 2) refl refl (sym q ∙ f)
  where
    go : (u v : Bool) → eqb kind 1 ≡ u → eqb kind 2 ≡ v → ((u || v) && ltb p j) ≡ true → Joined kind p j
    go true v d e h = let k = eqb-true kind 1 d in record { some_kind = omega arith; known_kind = omega arith; earlier = ltb-true p j h }
    go false true d e h = let k = eqb-true kind 2 e in record { some_kind = omega arith; known_kind = omega arith; earlier = ltb-true p j h }
    go false false d e h = absurd (true≢false (sym h))

joins_is : (kind p j : ℕ) → 1 ≤ kind → kind ≤ 2 → p < j → joins kind p j ≡ true
unfolding joins
joins_is kind p j h h' l = elim (ℕ_discrete kind 1) [ yes e ↦ rw (eq-eqb kind 1 e) (lt-ltb p j l) | no e ↦ rw (ne_eqb kind 1 e, eq-eqb kind 2 (omega arith)) (lt-ltb p j l) ]

abbrev head : List ℕ → ℕ
head [] = 0
head (c ∷ l) = c

-- the links after a record went in front
module _ (l : List ℕ) (q p j : ℕ) (b : q < 2) (m : j * 3 + 2 < length l) where
  front_length : length (in_front l q p j) ≡ length l
  unfolding in_front
  front_length = length-set (set l (j * 3 + 2) (link l p q)) (p * 3 + q) j ∙ length-set l (j * 3 + 2) (link l p q)

  front_at : p < j → link (in_front l q p j) p q ≡ j
  unfolding in_front link
  front_at h = get_or-set_same (set l (j * 3 + 2) (link l p q)) (p * 3 + q) j 0 (omega (arith, length-set l (j * 3 + 2) (link l p q)))

  front_next : link (in_front l q p j) j 2 ≡ link l p q
  unfolding in_front link
  front_next =
      get_or-set_other (set l (j * 3 + 2) (link l p q)) (p * 3 + q) (j * 3 + 2) j 0 (λ e. absurd (omega arith)) ∙
      get_or-set_same l (j * 3 + 2) (link l p q) 0 m

  -- every other link stays
  front_other : (i k : ℕ) → i * 3 + k ≢ p * 3 + q → i * 3 + k ≢ j * 3 + 2 → link (in_front l q p j) i k ≡ link l i k
  unfolding in_front link
  front_other i k u v = get_or-set_other (set l (j * 3 + 2) (link l p q)) (p * 3 + q) (i * 3 + k) j 0 u ∙ get_or-set_other l (j * 3 + 2) (i * 3 + k) (link l p q) 0 v

-- the kind s + 1, whose first is number s of a parent's links
module _ (t : List ℕ) (s : ℕ) (b : s < 2) where
  -- what the links hold once the m records from j on are linked
  record Linked (j m : ℕ) (l : List ℕ) : Type 0 where
    long : (j + m) * 3 ≤ length l
    first_is : (i : ℕ) → link l i s ≡ head (from t (suc s) i j m)
    next_is : (i c e : ℕ) → j ≤ c → suc c + e ≡ j + m → kin t (suc s) i c ≡ true → link l c 2 ≡ head (from t (suc s) i (suc c) e)

  module _ (l : List ℕ) (n : ℕ) (d : Linked 0 n l) where
    -- from any place on, the links spell the rest of the list
    chain_from : (i f j m : ℕ) → j + m ≡ n → m ≤ f → chain l f (head (from t (suc s) i j m)) ≡ from t (suc s) i j m
    unfolding chain from
    chain_from i zero j zero e h = refl
    chain_from i (suc f) j zero e h = refl
    chain_from i zero j (suc m) e h = absurd (omega arith)
    chain_from i (suc f) j (suc m) e h =
        go (kin t (suc s) i j) refl (chain_from i f (suc j) m (omega arith) (omega arith)) (chain_from i (suc f) (suc j) m (omega arith) (omega arith))
      where
        rest : List ℕ
        rest = from t (suc s) i (suc j) m

        go : (b : Bool) → kin t (suc s) i j ≡ b → chain l f (head rest) ≡ rest → chain l (suc f) (head rest) ≡ rest → chain l (suc f) (head (cond b (j ∷ rest) rest)) ≡ cond b (j ∷ rest) rest
        go true b u v = rw (ne_eqb j 0 (λ z. absurd (omega (arith, (kin_parts t (suc s) i j b).earlier))), d.next_is i j m (omega arith) (omega arith) b, u)
        go false b u v = v

    linked_below : (i : ℕ) → linked l s i ≡ below t (suc s) i n
    unfolding linked below
    linked_below i =
        rw (d.first_is i) (chain_from i (length l / 3) 0 n (omega arith) (omega (arith, d.long)) ∙ sym (below_from t (suc s) i 0 n) ∙ ap (below t (suc s) i) {x = 0 + n} {y = n} (omega arith))

  -- nothing is linked yet
  link_none : (j : ℕ) (l : List ℕ) → j * 3 ≤ length l → Blank l → Linked j 0 l
  unfolding from link
  link_none j l u z = record { long = omega arith; first_is = λ i. z.none_yet (i * 3 + s); next_is = λ i c e h g b. absurd (omega arith) }

  module _ (j m : ℕ) (l : List ℕ) (d : Linked (suc j) m l) where
    -- record j is not of this kind, or joins nothing
    pass : (l' : List ℕ) → ((i : ℕ) → kin t (suc s) i j ≡ false) → length l' ≡ length l → ((i : ℕ) → link l' i s ≡ link l i s) → ((c : ℕ) → c ≢ j → link l' c 2 ≡ link l c 2) → Linked j (suc m) l'
    unfolding from
    pass l' n e f g = record {
      long = omega (arith, d.long);
      first_is = λ i. rw (n i) (f i ∙ d.first_is i);
      next_is = λ i c x u v b. elim (ℕ_discrete c j) [ yes q ↦ absurd (true≢false (sym (rw q at b) ∙ n i)) | no q ↦ g c q ∙ d.next_is i c x (omega arith) (omega arith) b ];
    }

    -- record j is of this kind and goes in front
    goes : cell t j 0 ≡ suc s → cell t j 1 < j → Linked j (suc m) (in_front l s (cell t j 1) j)
    unfolding from
    goes k p<j = record {
      long = omega (arith, front_length l s p j b room, d.long);
      first_is = λ i. elim (ℕ_discrete i p) [ yes q ↦ mine i q | no q ↦ other i q ];
      next_is = λ i c x u v y. elim (ℕ_discrete c j) [ yes q ↦ front i c x q v y | no q ↦ front_other l s p j b room c 2 (λ e. absurd (omega arith)) (λ e. absurd (q (omega (arith, e)))) ∙ d.next_is i c x (omega arith) (omega arith) y ];
    }
      where
        p : ℕ
        p = cell t j 1

        room : j * 3 + 2 < length l
        room = omega (arith, d.long)

        mine : (i : ℕ) → i ≡ p → link (in_front l s p j) i s ≡ head (cond (kin t (suc s) i j) (j ∷ from t (suc s) i (suc j) m) (from t (suc s) i (suc j) m))
        mine i q = rw (q, kin_is t (suc s) p j (record { kind = k; parent = refl; earlier = p<j })) (front_at l s p j b room p<j)

        other : (i : ℕ) → i ≢ p → link (in_front l s p j) i s ≡ head (cond (kin t (suc s) i j) (j ∷ from t (suc s) i (suc j) m) (from t (suc s) i (suc j) m))
        other i q =
            front_other l s p j b room i s (λ e. absurd (q (omega (arith, e)))) (λ e. absurd (omega arith)) ∙ rw (not_kin t (suc s) i j (λ y. q (sym y.parent))) (d.first_is i)

        front : (i c x : ℕ) → c ≡ j → suc c + x ≡ j + suc m → kin t (suc s) i c ≡ true → link (in_front l s p j) c 2 ≡ head (from t (suc s) i (suc c) x)
        front i c x q v y =
            ap (λ (c : ℕ). link (in_front l s p j) c 2) q ∙ front_next l s p j b room ∙ d.first_is p ∙
            ap (λ (c : ℕ). head (from t (suc s) p (suc c) m)) (sym q) ∙ ap (λ (x : ℕ). head (from t (suc s) p (suc c) x)) {x = m} {y = x} (omega arith) ∙
            ap (λ (y : ℕ). head (from t (suc s) y (suc c) x)) (kin_parts t (suc s) i j (rw q at y)).parent

    one_more : Linked j (suc m) (link_one t j l)
    unfolding link_one
    one_more = go (joins (cell t j 0) (cell t j 1) j) refl
      where
        p : ℕ
        p = cell t j 1

        in-front : (q : ℕ) → cell t j 0 ≡ suc q → q < 2 → p < j → Linked j (suc m) (in_front l q p j)
        in-front q k h p<j =
            elim (ℕ_discrete q s) [
              | yes e ↦ rw e (goes (k ∙ ap suc e) p<j)
              | no e ↦
                  pass (in_front l q p j) (λ i. not_kin t (suc s) i j (λ y. e (omega (arith, y.kind)))) (front_length l q p j h room)
                  (λ i. front_other l q p j h room i s (λ z. absurd (omega arith)) (λ z. absurd (omega arith)))
                  (λ c x. front_other l q p j h room c 2 (λ z. absurd (omega arith)) (λ z. absurd (x (omega (arith, z)))))
            ]
          where
            room : j * 3 + 2 < length l
            room = omega (arith, d.long)

        go : (b : Bool) → joins (cell t j 0) p j ≡ b → Linked j (suc m) (cond b (in_front l (cell t j 0 - 1) p j) l)
        go true e = let y = joined (cell t j 0) p j true (sym e) refl in in-front (cell t j 0 - 1) (omega (arith, y.some_kind)) (omega (arith, y.known_kind)) y.earlier
        go false e =
            pass l (λ i. not_kin t (suc s) i j (λ y. absurd (true≢false (sym (joins_is (cell t j 0) p j (omega (arith, y.kind)) (omega (arith, y.kind)) (omega (arith, y.parent, y.earlier))) ∙ e)))) refl (λ i. refl)
            (λ c x. refl)

  -- all records below j
  all_below : (j m : ℕ) (l : List ℕ) → Linked j m l → Linked 0 (j + m) (link_below t j l)
  unfolding link_below
  all_below zero m l d = moved (omega arith) d
    where
      moved : {m' : ℕ} → m ≡ m' → Linked 0 m l → Linked 0 m' l
      moved e d = rw e at d
  all_below (suc j) m l d = moved (omega arith) (all_below j (suc m) (link_one t j l) (one_more j m l d))
    where
      moved : {m' : ℕ} → j + suc m ≡ m' → Linked 0 (j + suc m) (link_below t j (link_one t j l)) → Linked 0 m' (link_below t j (link_one t j l))
      moved e d = rw e at d

  -- an array lent with zeros and room
  linked_all : (l : List ℕ) → roomy t l ≡ true → Blank l → (i : ℕ) → linked (link_all t l) s i ≡ below t (suc s) i (records t)
  unfolding link_all roomy
  linked_all l r z i =
      rw r (linked_below (link_below t n l) n (moved (omega arith) (all_below n 0 l (link_none n l (leb-true (n * 3) (length l) (both (leb (n * 3) (length l)) (leb n 65536) r).0) z))) i)
    where
      n : ℕ
      n = records t

      moved : {m m' : ℕ} → m ≡ m' → Linked 0 m (link_below t n l) → Linked 0 m' (link_below t n l)
      moved e d = rw e at d

-- the links of every record spell its children, and its attributes: no table is excepted
module _ (t l : List ℕ) (r : roomy t l ≡ true) (z : Blank l) where
  pub linked_kids : linked (link_all t l) 0 ≡ kids t
  unfolding kids
  linked_kids = fun_ext (linked_all t 0 (omega arith) l r z)

  pub linked_attrs : linked (link_all t l) 1 ≡ attrs t
  unfolding attrs
  linked_attrs = fun_ext (linked_all t 1 (omega arith) l r z)

-- linking keeps the array's length
module _ (t : List ℕ) where
  one_length : (j : ℕ) (l : List ℕ) → length (link_one t j l) ≡ length l
  unfolding link_one in_front
  one_length j l = go (joins (cell t j 0) (cell t j 1) j)
    where
      go : (b : Bool) → length (cond b (in_front l (cell t j 0 - 1) (cell t j 1) j) l) ≡ length l
      go true = length-set (set l (j * 3 + 2) (link l (cell t j 1) (cell t j 0 - 1))) (cell t j 1 * 3 + (cell t j 0 - 1)) j ∙ length-set l (j * 3 + 2) (link l (cell t j 1) (cell t j 0 - 1))
      go false = refl

  below_length : (j : ℕ) (l : List ℕ) → length (link_below t j l) ≡ length l
  unfolding link_below
  below_length zero l = refl
  below_length (suc j) l = below_length j (link_one t j l) ∙ one_length j l

  pub link_length : (l : List ℕ) → length (link_all t l) ≡ length l
  unfolding link_all
  link_length l = go (roomy t l)
    where
      go : (b : Bool) → length (cond b (link_below t (records t) l) l) ≡ length l
      go true = below_length (records t) l
      go false = refl

-- room, in numbers
pub roomy_is : (t l : List ℕ) → records t * 3 ≤ length l → records t ≤ 65536 → roomy t l ≡ true
unfolding roomy
roomy_is t l h h' = rw (le-leb (records t * 3) (length l) h) (le-leb (records t) 65536 h')

-- an array of zeros
pub blank_zeros : (n : ℕ) → Blank (replicate n 0)
blank_zeros n = record { none_yet = λ i. elim (dec_lt i n) [ yes h ↦ get_or-replicate n i 0 0 h | no h ↦ get_or-eq_default (replicate n 0) 0 (omega (arith, length-replicate {A = ℕ} n 0)) ] }
