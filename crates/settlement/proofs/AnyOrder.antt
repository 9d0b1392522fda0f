-- Demand 3: two accepted tables that describe the same settlement except for an exchange have readings that differ in order alone.
use mathlib.Core.Path.{◌≡◌, refl, sym, ap, ◌∙◌}
use mathlib.Core.Bool.{true≢false}
use mathlib.Core.List.{List}
use mathlib.Core.Option.{Option, none, some}
use Prim.Native.Nat.{ℕ}
use Rattle.report.specs.Rows.{Place}
use Rattle.settlement.specs.Shapes.{Reading}
use Rattle.settlement.specs.Values.{Lent}
use Rattle.settlement.specs.Settlement.{reading}
use Rattle.settlement.specs.TableDoc.{shows, table_doc}
use Rattle.settlement.specs.Tree.{tree_doc, tree_of}
use Rattle.settlement.specs.Outcome.{Room, read, call_refusal, unless, outcome, shown}
use Rattle.settlement.specs.Alike.{Alike}
use Rattle.settlement.specs.Exchange.{Exchanged}
use Rattle.settlement.proofs.Names.{exchanged}
use Rattle.settlement.proofs.Natural.{reading_n}
use Rattle.settlement.proofs.Trees.{hom}

-- an outcome that is a reading is the reading of the table
pub outcome_read : (L : Lent) (m : Room) (t x : List ℕ) (r : Reading Place) → outcome L m t x ≡ read r → r ≡ reading L (table_doc t x) 0
unfolding outcome
outcome_read L m t x r e = go (call_refusal L m t x) e
  where
    go : (o : Option (ℕ × ℕ)) → unless o (reading L (table_doc t x) 0) ≡ read r → r ≡ reading L (table_doc t x) 0
    go none h = cc
    go (some n) h = absurd (true≢false cc)

module _ (L : Lent) where
  -- what a table's reading shows is the reading of its tree
  pub shown_tree : (t x : List ℕ) → shown x (reading L (table_doc t x) 0) ≡ reading L tree_doc (tree_of t x 0)
  unfolding shown
  shown_tree t x = sym (reading_n L (table_doc t x) tree_doc (tree_of t x) (shows x) (hom t x) 0)

  module _ (m n : Room) (t x u y : List ℕ) (r q : Reading Place) (e : outcome L m t x ≡ read r) (f : outcome L n u y ≡ read q) where
    left : shown x r ≡ reading L tree_doc (tree_of t x 0)
    left = ap (shown x) (outcome_read L m t x r e) ∙ shown_tree t x

    right : shown y q ≡ reading L tree_doc (tree_of u y 0)
    right = ap (shown y) (outcome_read L n u y q f) ∙ shown_tree u y

    -- two tables that describe the same settlement have readings that show the same
    pub same_settlement : tree_of t x 0 ≡ tree_of u y 0 → shown x r ≡ shown y q
    same_settlement h = left ∙ ap (reading L tree_doc) h ∙ sym right

    -- and but for an exchange, readings that differ in order alone
    pub order_free : Exchanged tree_doc (tree_of t x 0) (tree_of u y 0) → Alike (shown x r) (shown y q)
    unfolding tree_doc
    order_free h = rw (left, right) (exchanged L tree_doc (λ s. refl) (tree_of t x 0) (tree_of u y 0) h)
