-- A check before what is checked next: it refuses, or passes.
use mathlib.Core.Path.{◌≡◌}
use mathlib.Core.Option.{Option, none, some}
use Prim.Native.Nat.{ℕ}
use Rattle.refusals.specs.Refusals.{refuse}

module _ (n : ℕ) (o : Option ℕ) (next : Option (ℕ × ℕ)) where
  pub stops : {v : ℕ × ℕ} → some v ≡ refuse n o none → some v ≡ refuse n o next
  stops e = go o e
    where
      go : (o : Option ℕ) {v : ℕ × ℕ} → some v ≡ refuse n o none → some v ≡ refuse n o next
      go none e = cc
      go (some r) e = e

  pub passes : {v : Option (ℕ × ℕ)} → none ≡ refuse n o none → v ≡ next → v ≡ refuse n o next
  passes {v} e q = go o e
    where
      go : (o : Option ℕ) → none ≡ refuse n o none → v ≡ refuse n o next
      go none e = q
      go (some r) e = cc
