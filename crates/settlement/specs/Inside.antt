-- Texts that lie inside the lent text (document 01, "Rows": places, and an empty text is 0, 0).
use Rattle.std.specs.Prelude.{◌≡◌, List, ◌⊎◌, ℕ, ◌+◌, ◌≤◌, ◌<◌, ℤ, pos, length}
use Rattle.report.specs.Encoding.{absent}
use Rattle.report.specs.Rows.{Place}
use Rattle.settlement.specs.Shapes.{Reading}
use Rattle.settlement.specs.Shown.{map_reading}

-- a place that is empty or lies in the text x
abbrev pub Inside : List ℕ → Place → Type 0
Inside x p = (p.len ≡ 0) ⊎ (p.start + p.len ≤ length x)

-- such a place
pub record Spot (x : List ℕ) : Type 0 where
  pub place : Place
  pub inside : Inside x place

-- a reading each of whose texts is such a place
pub record AllInside (x : List ℕ) (r : Reading Place) : Type 0 where
  pub spots : Reading (Spot x)
  pub same : r ≡ map_reading (λ (s : Spot x). s.place) spots

-- the two numbers of a text in a row: an empty one is 0, 0, any other lies in the text x
pub data PlaceCells (x : List ℕ) : ℤ → ℤ → Type 0 where
  empty_text : PlaceCells x (pos 0) (pos 0)
  inside_text : (start len : ℕ) → 0 < len → start + len ≤ length x → PlaceCells x (pos start) (pos len)

-- of one that may be absent, which is -1, 0
pub data TextCells (x : List ℕ) : ℤ → ℤ → Type 0 where
  absent_text : TextCells x absent (pos 0)
  present_text : {start len : ℤ} → PlaceCells x start len → TextCells x start len
