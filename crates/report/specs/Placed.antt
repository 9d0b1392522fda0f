-- Rows, or bytes, put into a lent list one after another.
use Rattle.std.specs.Prelude.{◌≡◌, cond, List, ℕ, ◌+◌, ◌-◌, leb, length}
use Rattle.names.specs.Put.{put}

-- the place behind n elements that were put at a place of a list: its end where it has no room for all, and the same place where it has none
unfoldable pub behind : ℕ → ℕ → ℕ → ℕ
behind size at n = cond (leb size at) at (cond (leb (size - at) n) size (at + n))

-- elements were put at a place of one list, which made the other, and the next go behind them
pub record Placed {A : Type 0} (before : List A) (at : ℕ) (elements after : List A) (next : ℕ) : Type 0 where
  pub now : after ≡ put before at elements
  pub end : next ≡ behind (length before) at (length elements)
