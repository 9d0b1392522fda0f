-- Links between records, three numbers for each: the first of its children, the first of its attributes, and the next record under the same parent and of the same kind; 0 is none. `linked_kids` and `linked_attrs` (proofs/Linking.antt) say that they spell the table's children and attributes.
use Rattle.std.specs.Prelude.{◌≡◌, Bool, cond, ◌&&◌, ◌||◌, List, [], ◌∷◌, ℕ, zero, suc, ◌+◌, ◌*◌, ◌-◌, ◌/◌, ltb, leb, eqb, length, get_or, set}
use Rattle.table.specs.Table.{records, cell}

-- number k of record i's links: 0 first child, 1 first attribute, 2 next
unfoldable pub link : List ℕ → ℕ → ℕ → ℕ
link links i k = get_or links (i * 3 + k) 0

-- the list that the links spell from record c on, in at most f steps
unfoldable pub chain : List ℕ → ℕ → ℕ → List ℕ
chain links zero c = []
chain links (suc f) c = cond (eqb c 0) [] (c ∷ chain links f (link links c 2))

-- the list that they spell for record i: its children (k is 0) or its attributes (1)
unfoldable pub linked : List ℕ → ℕ → ℕ → List ℕ
linked links k i = chain links (length links / 3) (link links i k)

-- record j goes in front at number k of record p's links, and the one that was there becomes its next
unfoldable pub in_front : List ℕ → ℕ → ℕ → ℕ → List ℕ
in_front links k p j = set (set links (j * 3 + 2) (link links p k)) (p * 3 + k) j

-- record j, of this kind and with parent p, is an element or an attribute under an earlier record
unfoldable pub joins : ℕ → ℕ → ℕ → Bool
joins kind p j = (eqb kind 1 || eqb kind 2) && ltb p j

-- record j put in front of the others of its kind under its parent
unfoldable pub link_one : List ℕ → ℕ → List ℕ → List ℕ
link_one t j links = cond (joins (cell t j 0) (cell t j 1) j) (in_front links (cell t j 0 - 1) (cell t j 1) j) links

-- the records below j put in front, the last of them first
unfoldable pub link_below : List ℕ → ℕ → List ℕ → List ℕ
link_below t zero links = links
link_below t (suc j) links = link_below t j (link_one t j links)

-- there are three numbers for each record, and record numbers fit into 16 bits
unfoldable pub roomy : List ℕ → List ℕ → Bool
roomy t links = leb (records t * 3) (length links) && leb (records t) 65536

-- what `link` makes of the lent array: all records linked, or nothing changed where there is no room
unfoldable pub link_all : List ℕ → List ℕ → List ℕ
link_all t links = cond (roomy t links) (link_below t (records t) links) links

-- the array as it is lent: nothing is linked yet
pub record Blank (links : List ℕ) : Type 0 where
  pub none_yet : (n : ℕ) → get_or links n 0 ≡ 0
