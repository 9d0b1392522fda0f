-- Laws of a linked table as a document: what its texts, children and attributes are.
use mathlib.Core.Path.{◌≡◌, refl, sym, ap, ◌∙◌}
use mathlib.Core.Bool.{Bool, true, false, cond}
use mathlib.Core.List.{List, [], ◌∷◌}
use mathlib.Core.Option.{Option, none, some}
use Prim.Native.Nat.{ℕ, zero, suc, ◌+◌, ◌-◌, ◌≤◌, ◌<◌, min}
use native.Mathlib.Omega.{arith}
use native.Mathlib.Nat.{add-zero}
use borrow.Author.Tests.{eq-eqb, ne_eqb, le-leb, lt-leb, eqb-true, leb-true, leb-false, ltb-true}
use lib.Dec.{eqb, leb, ltb}
use lib.ListN.{length, get_or, take, drop, replicate, length-drop}
use lib.Seq.{take-take, drop-drop}
use Rattle.std.specs.Prelude.{Some, None}
use Rattle.std.specs.declared.option.Option as code
use Rattle.text.specs.Options.{option_of}
use Rattle.text.specs.Place.{place}
use Rattle.text.specs.Span.{clipped, cut}
use Rattle.text.specs.declared.span.Span.{Span}
use Rattle.characters.specs.Trim.{trimmed, trim_of}
use Rattle.characters.proofs.Trims.{trimmed_in}
use Rattle.amount.specs.Decimal.{empty}
use Rattle.table.specs.Table.{cell, name_of, text_of, named, first_of}
use Rattle.links.specs.Links.{linked, roomy, link_all, Blank}
use Rattle.links.specs.Firsts.{keep_all}
use Rattle.links.proofs.Linking.{linked_kids, linked_attrs}
use Rattle.links.proofs.FirstKids.{first_of_each}
use Rattle.report.specs.Rows.{Place}
use Rattle.settlement.specs.Document.{Doc, maybe, or}
use Rattle.settlement.specs.TableDoc.{text_at, own_text_at, shows, table_doc}
use Rattle.settlement.specs.Values.{trim_in, filled, text_in, own_text, text_bytes, first, kid, kid_text, attribute}
use Rattle.element.specs.LinkDoc.{link_doc}
use Rattle.element.specs.Trimmed.{trimmed_at}

-- a place that was made of a record's numbers
pub place_is : {a b s n : ℕ} → a ≡ s → b ≡ n → ◌≡◌ {A = Place} (record { start = a + 0; len = b }) (record { start = s; len = n })
place_is {a} e f = rw (add-zero a, e, f)

-- a part is no longer than was asked for
clipped_short : (x : List ℕ) (a n : ℕ) → length (clipped x a n) ≤ n
unfolding clipped
clipped_short x a n = take_short n (drop a x)
  where
    take_short : (n : ℕ) (l : List ℕ) → length (take n l) ≤ n
    take_short zero l = omega arith
    take_short (suc n) [] = omega arith
    take_short (suc n) (b ∷ l) = omega (arith, take_short n l)

-- a part of a part
inner : (n s m : ℕ) (l : List ℕ) → s + m ≤ n → take m (drop s (take n l)) ≡ take m (drop s l)
inner n zero m l h = take-take m n l (omega arith)
inner zero (suc s) m l h = absurd (omega arith)
inner (suc n) (suc s) m [] h = refl
inner (suc n) (suc s) m (b ∷ l) h = inner n s m l (omega arith)

-- what trimming leaves of a part
module _ (x : List ℕ) (mode a n : ℕ) where
  kept_in : ((trimmed mode (clipped x a n)).start ≤ (trimmed mode (clipped x a n)).end) × ((trimmed mode (clipped x a n)).end ≤ n)
  kept_in =
      let h = trimmed_in mode (clipped x a n) (trimmed mode (clipped x a n)) refl in
      (h.0, omega (arith, h.1, clipped_short x a n))

  module _ {b m : ℕ} {s : List ℕ} {k : Span} (p : b ≡ a) (q : m ≡ n) (r : s ≡ clipped x b m) (e : k ≡ trimmed mode s) where
    kept_is : k ≡ trimmed mode (clipped x a n)
    kept_is = rw (r, p, q) at e

    -- it ends inside the part
    pub kept_fits : (k.start ≤ k.end) × (k.end ≤ n)
    kept_fits = rw kept_is kept_in

    -- nothing is left
    pub trimmed_none : k.end ≤ k.start → none ≡ trimmed_at x mode a n
    unfolding trimmed_at
    trimmed_none h = rw (← kept_is, le-leb k.end k.start h)

    -- something is left
    pub trimmed_some : k.start < k.end → some (record { start = a + k.start; len = k.end - k.start }) ≡ trimmed_at x mode a n
    unfolding trimmed_at
    trimmed_some h = rw (← kept_is, lt-leb k.end k.start h)

-- a part of no bytes leaves nothing
trimmed_empty : (x : List ℕ) (mode a : ℕ) → trimmed_at x mode a 0 ≡ none
trimmed_empty x mode a = sym (trimmed_none x mode a 0 refl refl refl refl (omega (arith, (kept_in x mode a 0).1)))

empty_take : (n : ℕ) (l : List ℕ) → n ≤ length l → empty (take n l) ≡ leb n 0
empty_take zero l h = sym (le-leb 0 0 (omega arith))
empty_take (suc n) [] h = absurd (omega arith)
empty_take (suc n) (b ∷ l) h = sym (lt-leb (suc n) 0 (omega arith))

module _ (t x l : List ℕ) where
  abbrev D : Doc ℕ Place
  D = link_doc t x l

  -- the document's trimming of a place
  pub filled_is : (mode a n : ℕ) → trimmed_at x mode a n ≡ filled D mode (record { start = a; len = n })
  unfolding trimmed_at filled trim_in shows trim_of cut
  filled_is mode a n = go (trimmed mode (clipped x a n)).start (trimmed mode (clipped x a n)).end (trimmed_in mode (clipped x a n) (trimmed mode (clipped x a n)) refl)
    where
      go : (s e : ℕ) → (s ≤ e) × (e ≤ length (clipped x a n)) → cond {A = Option Place} (leb e s) none (some (record { start = a + s; len = e - s })) ≡ cond {A = Option Place} (empty (take (e - s) (drop s (clipped x a n)))) none (some (record { start = a + s; len = min (e - s) (n - s) }))
      go s e h =
          let k = clipped_short x a n in
          let m : e - s ≤ length (drop s (clipped x a n)) = rw (length-drop) (omega (arith, h.0, h.1)) in
          rw (empty_take (e - s) (drop s (clipped x a n)) m, short s e h.0 h.1 k) (same s e h.0)
        where
          short : (s e : ℕ) → s ≤ e → e ≤ length (clipped x a n) → length (clipped x a n) ≤ n → min (e - s) (n - s) ≡ e - s
          short s e h g k = omega arith

          same : (s e : ℕ) → s ≤ e → cond {A = Option Place} (leb e s) none (some (record { start = a + s; len = e - s })) ≡ cond {A = Option Place} (leb (e - s) 0) none (some (record { start = a + s; len = e - s }))
          same s e h = ap (λ (b : Bool). cond {A = Option Place} b none (some (record { start = a + s; len = e - s }))) (test (leb e s) refl)
            where
              test : (b : Bool) → leb e s ≡ b → leb e s ≡ leb (e - s) 0
              test true q = q ∙ sym (le-leb (e - s) 0 (omega (arith, leb-true e s q)))
              test false q = q ∙ sym (lt-leb (e - s) 0 (omega (arith, leb-false e s q)))

  -- an element's text: its place, its bytes, and what trimming leaves of it
  pub text_in_is : (mode r : ℕ) → trimmed_at x mode (cell t r 4) (cell t r 5) ≡ text_in D mode r
  unfolding text_in own_text_at
  text_in_is mode r = go (eqb (cell t r 5) 0) refl
    where
      go : (b : Bool) → eqb (cell t r 5) 0 ≡ b → trimmed_at x mode (cell t r 4) (cell t r 5) ≡ maybe none (filled D mode) (cond b none (some (text_at t r)))
      go true e = ap (trimmed_at x mode (cell t r 4)) (eqb-true (cell t r 5) 0 e) ∙ trimmed_empty x mode (cell t r 4)
      go false e = filled_is mode (cell t r 4) (cell t r 5)

  text_bytes_is : (r : ℕ) → text_of t x r ≡ text_bytes D r
  unfolding text_bytes own_text_at text_of shows clipped
  text_bytes_is r = go (eqb (cell t r 5) 0) refl
    where
      go : (b : Bool) → eqb (cell t r 5) 0 ≡ b → take (cell t r 5) (drop (cell t r 4) x) ≡ maybe [] (shows x) (cond b none (some (text_at t r)))
      go true e = ap (λ (n : ℕ). take n (drop (cell t r 4) x)) (eqb-true (cell t r 5) 0 e)
      go false e = refl

  -- the bytes of a text as a mode trims it are what trimming leaves of its bytes
  pub own_shown : (mode r : ℕ) → shows x (own_text D mode r) ≡ trim_of mode (text_bytes D r)
  unfolding own_text trimmed_at shows trim_of cut clipped text_of
  own_shown mode r = rw (← text_in_is mode r, ← text_bytes_is r) (go (trimmed mode (text_of t x r)).start (trimmed mode (text_of t x r)).end (kept_in x mode (cell t r 4) (cell t r 5)))
    where
      go : (s f : ℕ) → (s ≤ f) × (f ≤ cell t r 5) → shows x (or (record { start = 0; len = 0 }) (cond {A = Option Place} (leb f s) none (some (record { start = cell t r 4 + s; len = f - s })))) ≡ take (f - s) (drop s (take (cell t r 5) (drop (cell t r 4) x)))
      go s f h = side (leb f s) refl
        where
          side : (b : Bool) → leb f s ≡ b → shows x (or (record { start = 0; len = 0 }) (cond {A = Option Place} b none (some (record { start = cell t r 4 + s; len = f - s })))) ≡ take (f - s) (drop s (take (cell t r 5) (drop (cell t r 4) x)))
          side true q = let z : f - s ≡ 0 = omega (arith, leb-true f s q) in rw z
          side false q = sym (inner (cell t r 5) s (f - s) (drop (cell t r 4) x) (omega (arith, h.0, h.1)) ∙ rw (drop-drop s (cell t r 4) x))

  -- a text that is there is that text
  pub own_is : {p : Place} (mode r : ℕ) → some p ≡ text_in D mode r → p ≡ own_text D mode r
  unfolding own_text
  own_is mode r e = rw (← e)

  -- the first of a name
  first_is : (w cs : List ℕ) → first_of (named t x w) cs ≡ first D w cs
  unfolding first_of first named name_of shows
  first_is w [] = refl
  first_is w (c ∷ cs) = rw (first_is w cs)

  pub kid_is : (n : ℕ) (w : List ℕ) → first_of (named t x w) (linked l 0 n) ≡ kid D n w
  unfolding kid
  kid_is n w = first_is w (linked l 0 n)

  -- what one pass over the children keeps at the place of a name
  pub kid_kept : {ks : List (code.Option ℕ)} (n : ℕ) (ws : List (List ℕ)) (v : List ℕ) (k m : ℕ) → ks ≡ keep_all t x l n ws (replicate m None) → place ws v ≡ k → ltb k (length ws) ≡ true → k < m → option_of (get_or ks k None) ≡ kid D n v
  kid_kept n ws v k m q e h b = rw q (first_of_each t x l ws v k e (ltb-true k (length ws) h) n m b ∙ kid_is n v)

  -- the text of a child that was looked for by a name
  pub kid_text_is : {v : Option Place} {o : Option ℕ} (mode n : ℕ) (w : List ℕ) → v ≡ maybe none (text_in D mode) o → o ≡ kid D n w → v ≡ kid_text D mode n w
  unfolding kid_text
  kid_text_is mode n w q h = q ∙ rw h

  -- what the code made of a record's numbers
  pub text_in_made : {v : Option Place} {a n : ℕ} (mode r : ℕ) → a ≡ cell t r 4 → n ≡ cell t r 5 → v ≡ trimmed_at x mode a n → v ≡ text_in D mode r
  text_in_made mode r e f p = rw (e, f) at p ∙ text_in_is mode r

  pub attribute_none : {o : code.Option ℕ} (n : ℕ) (w : List ℕ) → option_of o ≡ first_of (named t x w) (linked l 1 n) → o ≡ None → none ≡ attribute D n w
  unfolding attribute
  attribute_none n w e z = rw (← e, z)

  pub attribute_made : {v : Option Place} {o : code.Option ℕ} {k : ℕ} (n : ℕ) (w : List ℕ) → option_of o ≡ first_of (named t x w) (linked l 1 n) → o ≡ Some k → v ≡ trimmed_at x 0 (cell t k 4) (cell t k 5) → v ≡ attribute D n w
  unfolding attribute
  attribute_made {v} {o} {k} n w e z p = p ∙ filled_is 0 (cell t k 4) (cell t k 5) ∙ rw (← e, z) refl

-- the same of its text as it stands
module _ (t : List ℕ) (r : ℕ) where
  pub raw_none : {n : ℕ} → n ≡ cell t r 5 → n ≡ 0 → none ≡ own_text_at t r
  unfolding own_text_at
  raw_none e z = rw (← e, eq-eqb _ _ z)

  pub raw_some : {a n : ℕ} → n ≡ cell t r 5 → (n ≡ 0 → ⊥) → a ≡ cell t r 4 → some (record { start = a + 0; len = n }) ≡ own_text_at t r
  unfolding own_text_at
  raw_some {a} {n} e z f = ap some (place_is f e) ∙ rw (rw e at (ne_eqb n 0 z))

-- the links that all records of a table make of a blank array with room: the document is the table's own
pub linked_doc : (t x l : List ℕ) → roomy t l ≡ true → Blank l → link_doc t x (link_all t l) ≡ table_doc t x
unfolding table_doc
linked_doc t x l r z = rw (linked_kids t l r z, linked_attrs t l r z)
