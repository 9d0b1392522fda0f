-- What trimming leaves of a part of a text.
use Rattle.std.specs.Prelude.{cond, List, ℕ, ◌+◌, ◌-◌, leb}
use Rattle.std.proofs.Math.Option.{Option, none, some}
use Rattle.text.specs.Span.{clipped}
use Rattle.characters.specs.Trim.{trimmed}
use Rattle.report.specs.Rows.{Place}

-- what a mode leaves of len bytes of a text from start on, and none where that is nothing
unfoldable pub trimmed_at : List ℕ → ℕ → ℕ → ℕ → Option Place
trimmed_at x mode start len =
    let k = trimmed mode (clipped x start len) in
    cond (leb k.end k.start) none (some (record { start = start + k.start; len = k.end - k.start }))
