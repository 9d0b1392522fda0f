-- The type code of a tax.
use Rattle.std.specs.Prelude.{Bool, cond, List, map, ℕ, ◌+◌}
use Rattle.text.specs.Order.{equal}
use Rattle.text.specs.Range.{within}
use Rattle.text.specs.Utf8.{bytes}

-- a letter A to Z as the small one, as Rust's `to_ascii_lowercase`
unfoldable pub lower : ℕ → ℕ
lower c = cond (within c 0x41 0x5A) (c + 32) c

-- VAT in any ASCII case (document 01, `read.rs`: message 8), as Rust's `eq_ignore_ascii_case`
unfoldable pub vat : List ℕ → Bool
vat s = equal (map lower s) (bytes "vat")
