-- The cases of noting an element: no room, its parent and name are there, they are not.
use mathlib.Core.Path.{◌≡◌, refl}
use mathlib.Core.List.{List}
use Prim.Native.Nat.{ℕ, ◌/◌, ◌≤◌, ◌<◌}
use borrow.Author.Tests.{le-leb, lt-leb}
use lib.IntN.{ℤ}
use lib.ListN.{length}
use Rattle.report.specs.Rows.{Place, Unmapped}
use Rattle.report.specs.Encoding.{unmapped_width}
use Rattle.unmapped.specs.Search.{sought}
use Rattle.unmapped.specs.Noting.{inserted, noting, Noted}
use Rattle.std.specs.Prelude.{Option, None, Some}

module _ (x : List ℕ) (l : List ℤ) (n : ℕ) (u : Unmapped Place) where
  pub noting_full : length l / unmapped_width ≤ n → Noted (noting x l n u) l n
  unfolding noting
  noting_full h = rw (le-leb (length l / unmapped_width) n h) (record { list = refl; count = refl })

  module _ (h : n < length l / unmapped_width) {s : Option ℕ} (e : s ≡ sought x l n u) where
    pub noting_taken : s ≡ None → Noted (noting x l n u) l n
    unfolding noting
    noting_taken q = rw (lt-leb (length l / unmapped_width) n h, ← e, q) (record { list = refl; count = refl })

    pub noting_free : {k : ℕ} {l' : List ℤ} {r : ℕ} → s ≡ Some k → Noted (inserted l n u k) l' r → Noted (noting x l n u) l' r
    unfolding noting
    noting_free q w = rw (lt-leb (length l / unmapped_width) n h, ← e, q) w
