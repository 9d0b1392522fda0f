-- Laws of elements noted one after the other.
use mathlib.Core.Path.{◌≡◌, refl, ◌∙◌}
use mathlib.Core.List.{List, [], ◌∷◌, ◌++◌}
use Prim.Native.Nat.{ℕ}
use lib.IntN.{ℤ}
use Rattle.report.specs.Rows.{Place, Unmapped}
use Rattle.unmapped.specs.Noting.{Rows, noting, notings, Noted}
use Rattle.unmapped.specs.Acted.{Notes}
use Rattle.unmapped.specs.declared.note.UnmappedRows.{UnmappedRows}

-- none
pub notings_none : (x : List ℕ) (l : List ℤ) (k : ℕ) → Noted (notings x l k []) l k
unfolding notings
notings_none x l k = record { list = refl; count = refl }

-- one
pub notings_one : (x : List ℕ) (l : List ℤ) (k : ℕ) (u : Unmapped Place) {l' : List ℤ} {k' : ℕ} → Noted (noting x l k u) l' k' → Noted (notings x l k (u ∷ [])) l' k'
unfolding notings
notings_one x l k u p = record { list = p.list; count = p.count }

-- those of two lists
notings_append : (x : List ℕ) (l : List ℤ) (k : ℕ) (us vs : List (Unmapped Place)) → notings x (notings x l k us).list (notings x l k us).count vs ≡ notings x l k (us ++ vs)
unfolding notings
notings_append x l k [] vs = refl
notings_append x l k (u ∷ us) vs = notings_append x (noting x l k u).list (noting x l k u).count us vs

as_noted : {a b : Rows} {l : List ℤ} {k : ℕ} → a ≡ b → Noted a l k → Noted b l k
as_noted e p = rw e at p

pub notings_then : (x : List ℕ) (l : List ℤ) (k : ℕ) (us vs : List (Unmapped Place)) {l' l'' : List ℤ} {k' k'' : ℕ} → Noted (notings x l k us) l' k' → Noted (notings x l' k' vs) l'' k'' → Noted (notings x l k (us ++ vs)) l'' k''
notings_then x l k us vs {l'} {l''} {k'} {k''} p q =
    let e : notings x l' k' vs ≡ notings x l k (us ++ vs) = rw (p.list, p.count) (notings_append x l k us vs) in as_noted e q

-- one more at the end
pub notings_more : (x : List ℕ) (l : List ℤ) (k : ℕ) (us : List (Unmapped Place)) (u : Unmapped Place) {l' l'' : List ℤ} {k' k'' : ℕ} → Noted (notings x l k us) l' k' → Noted (noting x l' k' u) l'' k'' → Noted (notings x l k (us ++ (u ∷ []))) l'' k''
notings_more x l k us u {l'} {l''} {k'} {k''} p q = notings_then x l k us (u ∷ []) p (notings_one x l' k' u q)

-- the same of lent rows
pub notes_none : (x : List ℕ) (u : UnmappedRows) → Notes x [] u u
notes_none x u = record { same = refl; rows = notings_none x u.list.now u.count }

pub notes_then : {x : List ℕ} {us vs : List (Unmapped Place)} {a b c : UnmappedRows} → Notes x us a b → Notes x vs b c → Notes x (us ++ vs) a c
notes_then {x} {us} {vs} {a} p q = record { same = q.same ∙ p.same; rows = notings_then x a.list.now a.count us vs p.rows q.rows }
