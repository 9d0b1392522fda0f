-- The table of currency codes: it ascends, and a search in it finds the codes.
use mathlib.Core.Path.{◌≡◌, refl, sym, ◌∙◌, ap}
use mathlib.Core.Bool.{Bool, true, false, ◌&&◌, ◌||◌, or-true}
use mathlib.Core.List.{List, [], ◌∷◌, map}
use Prim.Native.Nat.{ℕ, zero, suc, ◌≤◌, ◌<◌}
use native.Mathlib.Omega.{arith}
use native.Mathlib.Nat.{le_of_suc-le-suc, not-suc-le-zero}
use native.Mathlib.Decide.{dec_lt}
use borrow.Author.Tests.{eqb-true}
use lib.Dec.{eqb, ltb}
use lib.ListN.{length, get_or}
use Rattle.std.specs.Prelude.{Result, Ok, Err}
use Rattle.std.specs.Result.{is_ok}
use Rattle.std.specs.declared.cmp.Ordering.{Ordering}
use Rattle.std.specs.declared.cmp.Ordering.TheVariants.{Less, Equal, Greater}
use Rattle.std.specs.Ordering.{nat_cmp, is_lt, ordering_index, ordering_reverse}
use Rattle.std.specs.Cmp.Lexicographic.{slice_cmp}
use Rattle.std.specs.List.Sorted.{IsBinarySearchResult, IsSearchInRange, IsNonDecreasingBy}
use Rattle.std.proofs.lemmas.Cmp.{nat_list_cmp_total}
use Rattle.text.specs.Order.{equal}
use Rattle.text.specs.Utf8.{bytes, encode}
use Rattle.text.proofs.Bools.{both}
use Rattle.text.proofs.Orders.{equal_is, equal_refl, order_is, order_slices}
use Rattle.codes.specs.Currency.{currency_codes, among, listed}

abbrev against : List ℕ → List ℕ → Ordering
against = slice_cmp nat_cmp

less_is : (o : Ordering) → is_lt o ≡ true → o ≡ Less
less_is Less e = refl
less_is Equal e = cc
less_is Greater e = cc

-- each text is above the one before it, and the first above m
unfoldable pub ascends : List ℕ → List (List ℕ) → Bool
ascends m [] = true
ascends m (x ∷ l) = is_lt (against m x) && ascends x l

-- every text is above the one that the first must be above, and a later one above an earlier
ascends_above : (l : List (List ℕ)) (m : List ℕ) → ascends m l ≡ true → (k : ℕ) (d : List ℕ) → k < length l → against m (get_or l k d) ≡ Less
unfolding ascends
ascends_above [] m e k d h = absurd (not-suc-le-zero h)
ascends_above (x ∷ l) m e zero d h = less_is (against m x) (both (is_lt (against m x)) (ascends x l) e).0
ascends_above (x ∷ l) m e (suc k) d h =
    let b = both (is_lt (against m x)) (ascends x l) e in
    nat_list_cmp_total.trans m x (get_or l k d) (less_is (against m x) b.0) (ascends_above l x b.1 k d (le_of_suc-le-suc h))

ascends_lt : (l : List (List ℕ)) (m : List ℕ) → ascends m l ≡ true → (i j : ℕ) (d : List ℕ) → i < j → j < length l → against (get_or l i d) (get_or l j d) ≡ Less
unfolding ascends
ascends_lt [] m e i j d h h' = absurd (not-suc-le-zero h')
ascends_lt (x ∷ l) m e i zero d h h' = absurd (not-suc-le-zero h)
ascends_lt (x ∷ l) m e zero (suc j) d h h' = ascends_above l x (both (is_lt (against m x)) (ascends x l) e).1 j d (le_of_suc-le-suc h')
ascends_lt (x ∷ l) m e (suc i) (suc j) d h h' = ascends_lt l x (both (is_lt (against m x)) (ascends x l) e).1 i j d (le_of_suc-le-suc h) (le_of_suc-le-suc h')

-- how two texts in order stand to a third
stands : (a b x : List ℕ) → against a b ≡ Less → ordering_index (against a x) ≤ ordering_index (against b x)
stands a b x e = go (against a x) refl (against b x) refl
  where
    turned : against x b ≡ Less → against b x ≡ Greater
    turned p = nat_list_cmp_total.antisymm b x ∙ rw p

    go : (o : Ordering) → against a x ≡ o → (v : Ordering) → against b x ≡ v → ordering_index o ≤ ordering_index v
    go Less p v q = omega arith
    go Equal p v q = let z = turned (sym (nat_list_cmp_total.congr a x b p) ∙ e) in rw (sym q ∙ z) (omega arith)
    go Greater p v q = let z = turned (nat_list_cmp_total.trans x a b (nat_list_cmp_total.antisymm x a ∙ rw p) e) in rw (sym q ∙ z) (omega arith)

rises : (l : List (List ℕ)) (m x : List ℕ) → ascends m l ≡ true → IsNonDecreasingBy (λ y. ordering_index (against y x)) l
rises l m x e i j d h h' = elim (dec_lt i j) [ yes q ↦ stands (get_or l i d) (get_or l j d) x (ascends_lt l m e i j d q h') | no q ↦ (let z : i ≡ j = omega arith in rw z (omega arith)) ]

same_text : (y x : List ℕ) → against y x ≡ Equal → y ≡ x
same_text y x e = order_is y x (sym (order_slices y x Equal (sym e)))

itself : (x : List ℕ) → against x x ≡ Equal
itself x = go (against x x) (nat_list_cmp_total.antisymm x x)
  where
    go : (o : Ordering) → o ≡ ordering_reverse o → o ≡ Equal
    go Less e = cc
    go Equal e = refl
    go Greater e = cc

among_at : (l : List (List ℕ)) (x d : List ℕ) (k : ℕ) → k < length l → get_or l k d ≡ x → among x l ≡ true
unfolding among
among_at [] x d k h e = absurd (not-suc-le-zero h)
among_at (y ∷ l) x d zero h e = rw (e, equal_refl x)
among_at (y ∷ l) x d (suc k) h e = rw (among_at l x d k (le_of_suc-le-suc h) e) (or-true (equal x y))

among_none : (l : List (List ℕ)) (x d : List ℕ) → ((k : ℕ) → k < length l → get_or l k d ≡ x → ⊥) → among x l ≡ false
unfolding among
among_none [] x d n = refl
among_none (y ∷ l) x d n = go (equal x y) refl (among_none l x d (λ k h e. n (suc k) (omega arith) e))
  where
    go : (b : Bool) → equal x y ≡ b → among x l ≡ false → (equal x y || among x l) ≡ false
    go true e r = absurd (n 0 (omega arith) (sym (equal_is x y e)))
    go false e r = rw (e, r)

alike : (y x : List ℕ) (o : Ordering) → against y x ≡ o → y ≡ x → o ≡ Equal
alike y x o p e = sym p ∙ ap (λ (t : List ℕ). against t x) e ∙ itself x

-- what a search for x answers, of texts above m
pub found : (l : List (List ℕ)) (m x : List ℕ) (r : Result ℕ ℕ) → ascends m l ≡ true → IsSearchInRange r (length l) → IsBinarySearchResult (λ y. against y x) l r → is_ok r ≡ among x l
found l m x (Ok i) e b h = sym (among_at l x [] i b (same_text (get_or l i []) x (h [])))
found l m x (Err i) e b h = sym (among_none l x [] none)
  where
    none : (k : ℕ) → k < length l → get_or l k [] ≡ x → ⊥
    none k q z =
        let p = h (rises l m x e) in
        elim (dec_lt k i) [
          | yes t ↦ (let w : Less ≡ Equal = alike (get_or l k []) x Less (p.0 k [] (omega arith) t) z in cc)
          | no t ↦ (let w : Greater ≡ Equal = alike (get_or l k []) x Greater (p.1 k [] (omega arith) q) z in cc)
        ]

unfoldable pub codes : List (List ℕ)
codes = map bytes currency_codes

-- each text is three bytes, each below 256
unfoldable pub threes : List (List ℕ) → Bool
threes [] = true
threes (t ∷ l) = eqb (length t) 3 && (ltb (get_or t 0 0) 256 && ltb (get_or t 1 0) 256 && ltb (get_or t 2 0) 256) && threes l

abbrev zeros : List ℕ
zeros = 0 ∷ 0 ∷ 0 ∷ []

-- the computed test of the entire list: the codes ascend without repeats, the first above three zero bytes, and
-- each is three bytes
pub codes_ascend : (ascends zeros codes && threes codes) ≡ true
unfolding codes currency_codes bytes encode ascends threes
codes_ascend = refl

-- a search of the table answers that s is there just where s is listed
pub member_listed : (s : List ℕ) (r : Result ℕ ℕ) → IsSearchInRange r (length codes) → IsBinarySearchResult (λ y. against y s) codes r → is_ok r ≡ listed s
unfolding codes listed
member_listed s r b h = found codes zeros s r (both (ascends zeros codes) (threes codes) codes_ascend).0 b h

other : (s : List ℕ) (l : List (List ℕ)) → threes l ≡ true → (length s ≡ 3 → ⊥) → among s l ≡ false
unfolding among threes
other s [] e n = refl
other s (t ∷ l) e n =
    let bytes_below = ltb (get_or t 0 0) 256 && ltb (get_or t 1 0) 256 && ltb (get_or t 2 0) 256 in
    let b = both (eqb (length t) 3 && bytes_below) (threes l) e in
    go (equal s t) refl (eqb-true (length t) 3 (both (eqb (length t) 3) bytes_below b.0).0) (other s l b.1 n)
  where
    go : (p : Bool) → equal s t ≡ p → length t ≡ 3 → among s l ≡ false → (equal s t || among s l) ≡ false
    go true q h r = absurd (n (ap length (equal_is s t q) ∙ h))
    go false q h r = rw (q, r)

-- a text of another length
pub listed_other : (s : List ℕ) → (length s ≡ 3 → ⊥) → false ≡ listed s
unfolding listed codes
listed_other s n = sym (other s codes (both (ascends zeros codes) (threes codes) codes_ascend).1 n)

-- a text of three bytes
pub three : (s : List ℕ) → length s ≡ 3 → get_or s 0 0 ∷ get_or s 1 0 ∷ get_or s 2 0 ∷ [] ≡ s
three [] h = absurd (omega arith)
three (a ∷ []) h = absurd (omega arith)
three (a ∷ b ∷ []) h = absurd (omega arith)
three (a ∷ b ∷ c ∷ []) h = refl
three (a ∷ b ∷ c ∷ d ∷ s) h = absurd (omega arith)
