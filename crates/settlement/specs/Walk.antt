-- The lists that a walk over children makes: what is said on the way, and names in order.
use mathlib.Core.List.{List, [], ◌∷◌, ◌++◌, foldl}
use Prim.Native.Nat.{Ordering}

-- all that is said on the way of a fold, in order, each with the state before it
module _ {C S O : Type 0} (step : S → C → S) (emit : S → C → List O) where
  unfoldable pub said : S → List C → List O
  said s [] = []
  said s (c ∷ cs) = emit s c ++ said (step s c) cs

module _ {A : Type 0} (c : A → A → Ordering) where
  -- a beside b by their order: before it, dropped where they are the same, or further on
  abbrev pub placed : Ordering → A → A → List A → List A → List A
  placed Ordering.lt a b l r = a ∷ b ∷ l
  placed Ordering.eq a b l r = b ∷ l
  placed Ordering.gt a b l r = b ∷ r

  -- insertion into a list in order, which keeps the first of two alike
  unfoldable pub insert : A → List A → List A
  insert a [] = a ∷ []
  insert a (b ∷ l) = placed (c a b) a b l (insert a l)

  -- of all of them, one after the other
  unfoldable pub insert_all : List A → List A → List A
  insert_all l us = foldl (λ (m : List A) (u : A). insert u m) l us
