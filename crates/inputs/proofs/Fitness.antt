-- What record file, text and input line give, by the tests of the code.
use mathlib.Core.Path.{◌≡◌, refl, sym, ◌∙◌}
use mathlib.Core.Bool.{Bool, true, false, cond, ◌&&◌}
use mathlib.Core.List.{List}
use mathlib.Core.Option.{Option, none, some, map, none-ne-some}
use Prim.Native.Nat.{ℕ, ◌*◌, ◌%◌, ◌≤◌, ◌<◌}
use borrow.Author.Tests.{le-leb, lt-leb, eq-eqb, ne_eqb, leb-true, eqb-true}
use lib.Dec.{leb, eqb}
use lib.ListN.{length}
use Rattle.text.specs.Digits.{number}
use Rattle.text.specs.Span.{cut}
use Rattle.text.proofs.Bools.{both}
use Rattle.inputs.specs.declared.input_line.Fields.{Fields}
use Rattle.inputs.specs.Line.{Content, or_none, line_of}
use Rattle.inputs.specs.Given.{Given, numbers_of, record_file, input_of}
use Rattle.inputs.specs.Places.{given_by, Parsed, Decided}
use Rattle.inputs.specs.Spelling.{Formed}
use Rattle.inputs.proofs.Spellings.{formed_line}
use Rattle.std.specs.declared.option.Option as code
use Rattle.std.specs.Prelude.{None, Some}

module _ (records text input : List ℕ) where
  pub records_long : 6144 < length records → Decided records text input None
  unfolding given_by record_file input_of
  records_long h = record { says = rw (lt-leb (length records) 6144 h); is = rw (lt-leb (length records) 6144 h) }

  module _ (h : length records ≤ 6144) where
    pub numbers_broken : (length records % 4 ≡ 0 → ⊥) → Decided records text input None
    unfolding given_by record_file input_of
    numbers_broken n =
        record {
          says = rw (le-leb (length records) 6144 h, ne_eqb (length records % 4) 0 n);
          is = rw (le-leb (length records) 6144 h, ne_eqb (length records % 4) 0 n);
        }

    module _ (e : length records % 4 ≡ 0) where
      pub text_long : 65536 < length text → Decided records text input None
      unfolding given_by record_file input_of
      text_long l =
          record {
            says = rw (le-leb (length records) 6144 h, eq-eqb (length records % 4) 0 e, lt-leb (length text) 65536 l);
            is = rw (le-leb (length records) 6144 h, eq-eqb (length records % 4) 0 e, lt-leb (length text) 65536 l);
          }

      pub line_decides : length text ≤ 65536 → {a : code.Option Fields} → Parsed input a → Decided records text input a
      unfolding given_by record_file input_of
      line_decides l q =
          record {
            says = rw (q.says, le-leb (length records) 6144 h, eq-eqb (length records % 4) 0 e, le-leb (length text) 65536 l);
            is = q.is ∙ rw (le-leb (length records) 6144 h, eq-eqb (length records % 4) 0 e, le-leb (length text) 65536 l);
          }

-- what an answer of `input_of` says where it is fit: what is given, and the sizes of the files
module _ (records text input : List ℕ) {a : code.Option Fields} {f : Fields} (e : a ≡ Some f) (q : Decided records text input a) where
  pub fit_given : input_of records text input ≡ some (record { table = numbers_of records; text = text; line = record { mode = f.mode; rules = f.rules; currency = cut f.currency input; identifier = cut f.identifier input } })
  unfolding given_by
  fit_given = sym (rw e at q.says)

  fit_files : (record_file records && leb (length text) 65536) ≡ true
  unfolding input_of
  fit_files = go (record_file records && leb (length text) 65536) (map (λ (l : Content). record { table = numbers_of records; text = text; line = l }) (line_of input)) fit_given
    where
      go : (b : Bool) (o : Option Given) {g : Given} → cond b o none ≡ some g → b ≡ true
      go true o e = refl
      go false o {g} e = absurd (none-ne-some g e)

  pub fit_sizes : (length records ≤ 6144) × (length records % 4 ≡ 0) × (length text ≤ 65536)
  unfolding record_file
  fit_sizes =
      let b = both (record_file records) (leb (length text) 65536) fit_files in
      let d = both (leb (length records) 6144) (eqb (length records % 4) 0) b.0 in
      (leb-true (length records) 6144 d.0, eqb-true (length records % 4) 0 d.1, leb-true (length text) 65536 b.1)

-- what is within the limits is fit, and so is the answer of `input_of`
module _ (records text input : List ℕ) (few : length records ≤ 256 * 6 * 4) (whole : length records % 4 ≡ 0) (short : length text ≤ 65536) {m r c i : List ℕ} (form : Formed m r c i input) where
  pub within_given : input_of records text input ≡ some (record { table = numbers_of records; text = text; line = record { mode = number 0 m; rules = number 0 r; currency = or_none c; identifier = or_none i } })
  unfolding record_file input_of
  within_given =
      rw (le-leb (length records) 6144 few, eq-eqb (length records % 4) 0 whole, le-leb (length text) 65536 short, formed_line m r c i input form)

  pub within_fit : (a : code.Option Fields) → Decided records text input a → (f : Fields) × (a ≡ Some f)
  unfolding given_by
  within_fit None q = absurd (none-ne-some _ (q.says ∙ within_given))
  within_fit (Some f) q = (f, refl)
