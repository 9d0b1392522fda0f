-- What a list of unmapped elements is, apart from how one is found in it: their rows in order at the front of a lent list (document 01, "Rows": Unmapped).
use Rattle.std.specs.Prelude.{◌≡◌, List, ℕ, ◌*◌, ◌≤◌, ℤ, length}
use Rattle.names.specs.Put.{put}
use Rattle.report.specs.Rows.{Place, Unmapped}
use Rattle.report.specs.Encoding.{unmapped_width, unmapped_row, rows_of}
use Rattle.settlement.specs.Sorted.{Ascending}
use Rattle.unmapped.specs.Row.{element_order}

-- n elements, ascending by parent and then by name, each pair once, stand at the front of a list that was lent as another, which has room for them; the rest is as it was lent
pub record Listed (x : List ℕ) (lent : List ℤ) (us : List (Unmapped Place)) (now : List ℤ) (n : ℕ) : Type 0 where
  pub rows : now ≡ put lent 0 (rows_of unmapped_row us)
  pub count : n ≡ length us
  pub sorted : Ascending (element_order x) us
  pub room : length us * unmapped_width ≤ length lent
