-- The library's version.
use Rattle.std.specs.Prelude.{ℕ, ◌+◌, ◌*◌}

-- major, minor and patch as one number: this is 0.2.0
abbrev pub version : ℕ
version = 0 * 10000 + 2 * 100 + 0
