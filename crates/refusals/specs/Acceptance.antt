-- What an accepted table is. `accepted_is` and `is_accepted` (proofs/Accepting.antt) say that just these tables are refused by none of 3 to 9.
use Rattle.std.specs.Prelude.{◌≡◌, false, List, ℕ, ◌%◌, ◌≤◌, ◌<◌, length}
use Rattle.text.specs.Utf8.{bytes}
use Rattle.table.specs.Table.{records, name_of}
use Rattle.refusals.specs.Refusals.{not_root, misplaced, outside, not_utf8}

-- a table and its text that are refused by none of 3 to 9
pub record Accepted (t x : List ℕ) : Type 0 where
  pub some_records : 0 < records t
  pub whole_records : length t % 6 ≡ 0
  pub few_records : records t ≤ 4096
  pub short_text : length x ≤ 1048576
  pub root : not_root t ≡ false
  pub placed : (j : ℕ) → 1 ≤ j → j < records t → misplaced t j ≡ false
  pub inside : (j : ℕ) → j < records t → outside t x j ≡ false
  pub readable : (j : ℕ) → j < records t → not_utf8 t x j ≡ false
  pub settlement : name_of t x 0 ≡ bytes "ApplicableHeaderTradeSettlement"
