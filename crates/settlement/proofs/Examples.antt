-- The worked examples hold, all of them computed from the definitions, and two tables of document 01's example have its tree and are read.
use mathlib.Core.Path.{◌≡◌, refl, sym, ◌∙◌, subst}
use mathlib.Core.Bool.{true}
use mathlib.Core.List.{[], ◌∷◌}
use mathlib.Core.Option.{none, some}
use Rattle.text.specs.Digits.{digit, all_digits, number}
use Rattle.text.specs.Order.{equal}
use Rattle.text.specs.Range.{within}
use Rattle.text.specs.Span.{cut, clipped}
use Rattle.text.specs.Utf8.{encode, bytes}
use Rattle.characters.specs.Trim.{all_white, before, through, kept_of, trimmed, trim_of}
use Rattle.characters.specs.Characters.{tail, scalar, two, three, four, char_of, front, chars, all_good, utf8}
use Rattle.characters.specs.WhiteSpace.{in_ranges, white_spaces, white_space, blank, white}
use Rattle.amount.specs.Amount.{hundredths, in_range, amount_of as amount_in, parsed_amount}
use Rattle.amount.specs.Decimal.{negative, unsigned, digits_of, past_digits, pointed, past_point, whole, fraction, decimal, signed}
use Rattle.amount.specs.Percentage.{percentage_of, parsed_percentage}
use Rattle.date.specs.Date.{leap, days, is_day, year, month, day, eight_digits, date_of, parsed_date}
use Rattle.codes.specs.Boolean.{literals, boolean_of}
use Rattle.codes.specs.CodeList.{meaning}
use Rattle.codes.specs.Currency.{currency_codes, among, listed}
use Rattle.codes.specs.DateFormat.{date_format}
use Rattle.codes.specs.Rules.{bit, in_force}
use Rattle.table.specs.Table.{name_of, text_of, named, kin, below, kids, attrs, first_of, first_from}
use Rattle.refusals.specs.Refusals.{ragged, oversized, not_root, misplaced, beyond, outside, not_utf8, not_settlement, record_refusal, size_refusal, refusal}
use Rattle.names.specs.declared.parent.Parent.TheVariants as Parent
use Rattle.report.specs.Encoding.{tidy, held_row, unmapped_row, rows_of}
use Rattle.report.specs.Rows.{transfer}
use Rattle.settlement.specs.Kinds.{same_kind, home, meant, kinds, kind_named}
use Rattle.settlement.specs.Shapes.{transfers, no_totals}
use Rattle.settlement.specs.Values.{entry, amount_message, date_message, trim_in, filled, text_in, own_text, text_bytes, first, kid, kid_text, attribute, missing, answered, date_from, date_in, date, parsed, wrong_currency, in_currency, amount_from, amount_of, amount, required_amount, required_code, percent_of, percent, not_vat}
use Rattle.settlement.specs.Tax.{point_date, point_code, trade_tax_of, indicated, indicator, is_charge, counted, category_of, allowance_charge_of, allowance_or_charge}
use Rattle.settlement.specs.Payments.{with_means, first_means, parts, part_of, account_of, joined, creditor, part, paying, paying_start, paid, payment_means_of}
use Rattle.settlement.specs.Summation.{sums, sum_of, is_currency, with_vat, tax_in, tax_amount, tax_total_of, summand, summing, summed, totals}
use Rattle.settlement.specs.Walk.{said, insert, insert_all}
use Rattle.settlement.specs.Settlement.{quiet, period_of, payment_terms_of, own, kind_of, so_far, unseen, seen, act, step, says_of, holds_of, strays_of, besides, debited, debit_of, late_of, terms_of, after, reading_of, reading}
use Rattle.settlement.specs.TableDoc.{own_text_at, shows, table_doc}
use Rattle.settlement.specs.Tree.{tree_doc, element, tree, tree_of}
use Rattle.settlement.specs.Outcome.{Outcome, read, unknown_mode, unknown_rules, cramped, call_refusal, outcome, shown}
use Rattle.settlement.specs.Result.{terms_row, result_of, answer_row}
use Rattle.settlement.specs.Edges.{lent}
use Rattle.settlement.specs.Examples.{account_and_foo, example_table, example_text, other_table, other_text, example_room, ExampleNumbers, Examples}
use Rattle.settlement.proofs.AnyOrder.{same_settlement}
use Rattle.settlement.proofs.Witness.{lent as allRules}

-- currency EUR, one account with IBANID DE1, and Foo
pub account-and-foo : reading lent tree_doc account_and_foo ≡
    record {
      terms =
          record {
            bt5 = some (bytes "EUR");
            bt6 = none;
            bt7 = none;
            bt8 = none;
            bt9 = none;
            bt19 = none;
            bt20 = none;
            payee = none;
            period = none;
            paid = true;
            bt81 = none;
            bt82 = none;
            bt83 = none;
            means = transfers;
            bt89 = none;
            bt90 = none;
            totals = no_totals;
          };
      held = transfer (record { account = some (bytes "DE1"); name = none; provider = none }) ∷ [];
      entries = [];
      unmapped = record { parent = Parent.Settlement; name = bytes "Foo" } ∷ [];
    }
unfolding cut equal bytes encode utf8 chars front char_of two three four tail scalar all_good within in_ranges white_spaces white_space white all_white before through kept_of trimmed trim_of same_kind home meant kinds kind_named trim_in filled text_in own_text text_bytes first kid kid_text missing bit in_force parts part_of account_of joined creditor part paying paying_start paid payment_means_of said insert insert_all quiet own kind_of so_far unseen seen act step says_of holds_of strays_of besides debited debit_of late_of terms_of after reading_of reading tree_doc
account-and-foo = refl

-- the call on its table is read
pub example_read : outcome lent example_room example_table example_text ≡ read (reading lent (table_doc example_table example_text) 0)
unfolding example_table example_text outcome call_refusal unknown_mode unknown_rules cramped refusal ragged size_refusal oversized not_root record_refusal first_from misplaced outside beyond not_utf8 not_settlement name_of text_of named equal bytes encode clipped cut utf8 chars front char_of two three four tail scalar all_good within
example_read = refl

-- and its tree is the example's
pub example_tree : tree_of example_table example_text 0 ≡ account_and_foo
unfolding example_table example_text tree_of tree element table_doc own_text_at shows clipped kids below kin attrs first_of bytes encode
example_tree = refl

-- in numbers
pub example_numbers : ExampleNumbers (result_of (outcome lent example_room example_table example_text))
unfolding example_table example_text result_of answer_row terms_row tidy held_row unmapped_row rows_of cut equal bytes encode utf8 chars front char_of two three four tail scalar all_good within in_ranges white_spaces white_space white all_white before through kept_of trimmed trim_of same_kind home meant kinds kind_named trim_in filled text_in own_text first kid kid_text missing bit in_force parts part_of account_of joined creditor part paying paying_start paid payment_means_of said insert insert_all quiet own kind_of so_far unseen seen act step says_of holds_of strays_of debited besides debit_of late_of terms_of after reading_of reading table_doc own_text_at shows clipped kids below kin
example_numbers = subst (λ (o : Outcome). ExampleNumbers (result_of o)) (sym example_read) (record { answer = refl; held = refl; entries = refl; unmapped = refl })

-- both of the same settlement laid out otherwise
pub other_read : outcome lent example_room other_table other_text ≡ read (reading lent (table_doc other_table other_text) 0)
unfolding other_table other_text outcome call_refusal unknown_mode unknown_rules cramped refusal ragged size_refusal oversized not_root record_refusal first_from misplaced outside beyond not_utf8 not_settlement name_of text_of named equal bytes encode clipped cut utf8 chars front char_of two three four tail scalar all_good within
other_read = refl

pub other_tree : tree_of other_table other_text 0 ≡ account_and_foo
unfolding other_table other_text tree_of tree element table_doc own_text_at shows clipped kids below kin attrs first_of bytes encode
other_tree = refl

-- so both readings show the same
pub same_shown : shown example_text (reading lent (table_doc example_table example_text) 0) ≡ shown other_text (reading lent (table_doc other_table other_text) 0)
same_shown = same_settlement lent example_room example_room example_table example_text other_table other_text _ _ example_read other_read (example_tree ∙ sym other_tree)

-- all worked examples
pub examples_hold : Examples allRules
unfolding digit all_digits number cut equal bytes encode utf8 chars front char_of two three four tail scalar all_good within in_ranges white_spaces white_space blank white all_white before through kept_of trimmed trim_of hundredths in_range amount_in parsed_amount negative unsigned digits_of past_digits pointed past_point whole fraction decimal signed percentage_of parsed_percentage leap days is_day year month day eight_digits date_of parsed_date among currency_codes listed meaning literals boolean_of date_format same_kind home meant kinds kind_named entry amount_message date_message trim_in filled text_in own_text text_bytes first kid kid_text attribute missing answered date_from date_in date parsed wrong_currency in_currency amount_from amount_of amount required_amount required_code percent_of percent not_vat bit in_force point_date point_code trade_tax_of indicated indicator is_charge counted category_of allowance_charge_of allowance_or_charge parts part_of account_of joined creditor with_means first_means part paying paying_start paid payment_means_of sums sum_of is_currency with_vat tax_in tax_amount tax_total_of summand summing summed totals said quiet period_of payment_terms_of own kind_of so_far unseen seen act step says_of holds_of besides debited debit_of late_of terms_of after reading_of reading tree_doc
examples_hold =
    record {
      currencies = refl;
      empty_amounts = refl;
      dates = refl;
      indicator_entries = refl;
      indicator_rows = refl;
      accounts = refl;
      ending = refl;
      third_currency = refl;
      unreadable = (refl, refl);
      unreadable_bt5 = (refl, refl);
      unreadable_bt6 = (refl, refl);
      unreadable_both = refl;
      line_ends = refl;
      line_ends_rows = refl;
      line_ends_totals = refl;
    }
