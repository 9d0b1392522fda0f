-- The examples hold, all of them computed from the definitions.
use mathlib.Core.Path.{◌≡◌, refl}
use mathlib.Core.List.{List, map}
use mathlib.Core.Logic.{inl}
use mathlib.Core.Option.{Option, bind}
use Prim.Native.Nat.{ℕ}
use Prim.Native.String.{String}
use native.Mathlib.Omega.{arith}
use Rattle.text.specs.Digits.{digit, all_digits, number}
use Rattle.text.specs.Order.{equal}
use Rattle.text.specs.Range.{within}
use Rattle.text.specs.Utf8.{encode, bytes}
use Rattle.inputs.specs.Line.{Content, ahead, split, one_line, parted, numeral, filled, or_none, fields_of, line_of}
use Rattle.inputs.specs.Given.{numbers_of, record_file, input_of}
use Rattle.inputs.specs.Examples.{examples, table_of, record_files, counts_of, sizes}
use Rattle.inputs.specs.Spelling.{mark, plain, all_plain, joined, Formed}

pub examples_hold : map (λ (e : String × Option Content). line_of (bytes e.0)) examples ≡ map (λ (e : String × Option Content). e.1) examples
unfolding examples digit all_digits number equal within encode bytes ahead split one_line parted numeral filled or_none fields_of line_of bind
examples_hold = refl

pub record_files_hold : map (λ (e : List ℕ × Option (List ℕ)). table_of e.0) record_files ≡ map (λ (e : List ℕ × Option (List ℕ)). e.1) record_files
unfolding record_files digit all_digits number equal within encode bytes ahead split one_line parted numeral filled or_none fields_of line_of bind numbers_of record_file input_of
record_files_hold = refl

pub sizes_hold : map (λ (e : (ℕ × ℕ) × Option (ℕ × ℕ)). counts_of e.0.0 e.0.1) sizes ≡ map (λ (e : (ℕ × ℕ) × Option (ℕ × ℕ)). e.1) sizes
unfolding sizes digit all_digits number equal within encode bytes ahead split one_line parted numeral filled or_none fields_of line_of bind numbers_of record_file input_of
sizes_hold = refl

-- document 01's line has the right form
pub example_formed : Formed (bytes "0") (bytes "0") (bytes "EUR") (bytes "-") (bytes "0 0 EUR -")
unfolding digit all_digits within encode bytes mark plain all_plain joined numeral filled
example_formed =
    record {
      spelled = record { plain = refl; is = inl refl };
      mode = refl;
      rules = refl;
      currency = refl;
      identifier = refl;
      short = omega arith;
    }
