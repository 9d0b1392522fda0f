-- The refusals 3 to 9 of a table and its text, each with the first offending record (document 01, "Where each refusal is checked").
use Rattle.std.specs.Prelude.{Bool, cond, ◌&&◌, ◌||◌, not, List, ℕ, ◌+◌, ◌-◌, ◌%◌, ltb, eqb, length}
use Rattle.std.proofs.Math.Option.{Option, none, some}
use Rattle.text.specs.Utf8.{bytes}
use Rattle.characters.specs.Characters.{utf8}
use Rattle.table.specs.Table.{records, cell, name_of, text_of, named, first_from}

-- 3: no records, or count of numbers not a multiple of 6
unfoldable pub ragged : List ℕ → Bool
ragged t = eqb (records t) 0 || not (eqb (length t % 6) 0)

-- 4: over 4,096 records or over 1,048,576 text bytes
unfoldable pub oversized : List ℕ → List ℕ → Bool
oversized t x = ltb 4096 (records t) || ltb 1048576 (length x)

-- 5: record 0 not an element with parent 0
unfoldable pub not_root : List ℕ → Bool
not_root t = not (eqb (cell t 0 0) 1 && eqb (cell t 0 1) 0)

-- 6: kind not 1 or 2, parent not earlier, or parent not an element
unfoldable pub misplaced : List ℕ → ℕ → Bool
misplaced t j = not (ltb (cell t j 1) j && (eqb (cell t (cell t j 1) 0) 1 && (eqb (cell t j 0) 1 || eqb (cell t j 0) 2)))

-- 7: start plus length beyond the text (also for length 0)
unfoldable pub beyond : List ℕ → ℕ → ℕ → Bool
beyond x start len = ltb (length x) (start + len)

-- the name or the text of record j
unfoldable pub outside : List ℕ → List ℕ → ℕ → Bool
outside t x j = beyond x (cell t j 2) (cell t j 3) || beyond x (cell t j 4) (cell t j 5)

-- 8: name or text not UTF-8
unfoldable pub not_utf8 : List ℕ → List ℕ → ℕ → Bool
not_utf8 t x j = not (utf8 (name_of t x j) && utf8 (text_of t x j))

-- 9: record 0's name not ApplicableHeaderTradeSettlement
unfoldable pub not_settlement : List ℕ → List ℕ → Bool
not_settlement t x = not (named t x (bytes "ApplicableHeaderTradeSettlement") 0)

-- record 0, if it or the whole table offends
abbrev pub at_root : Bool → Option ℕ
at_root b = cond b (some 0) none

-- refusal n, if a record offends, else what is checked next
abbrev pub refuse : ℕ → Option ℕ → Option (ℕ × ℕ) → Option (ℕ × ℕ)
refuse n none next = next
refuse n (some r) next = some (n, r)

-- 6, 7 and 8 each go over all records before the next, 6 over the later ones
unfoldable pub record_refusal : List ℕ → List ℕ → Option (ℕ × ℕ)
record_refusal t x =
    refuse 6 (first_from (misplaced t) 1 (records t - 1))
    (refuse 7 (first_from (outside t x) 0 (records t - 0))
    (refuse 8 (first_from (not_utf8 t x) 0 (records t - 0))
    (refuse 9 (at_root (not_settlement t x)) none)))

-- 4 and 5 come before them
unfoldable pub size_refusal : List ℕ → List ℕ → Option (ℕ × ℕ)
size_refusal t x = refuse 4 (at_root (oversized t x)) (refuse 5 (at_root (not_root t)) (record_refusal t x))

-- the first refusal, with its record; none where the table is accepted
unfoldable pub refusal : List ℕ → List ℕ → Option (ℕ × ℕ)
refusal t x = refuse 3 (at_root (ragged t)) (size_refusal t x)
