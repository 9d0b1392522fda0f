-- The starred edges of document 01 hold, all of them computed from the definitions.
use mathlib.Core.Path.{refl}
use Rattle.text.specs.Digits.{digit, all_digits, number}
use Rattle.text.specs.Order.{equal}
use Rattle.text.specs.Range.{within}
use Rattle.text.specs.Span.{cut}
use Rattle.text.specs.Utf8.{encode, bytes}
use Rattle.characters.specs.Trim.{all_white, before, through, kept_of, trimmed, trim_of}
use Rattle.characters.specs.Characters.{is_scalar, tail, scalar, two, three, four, char_of, front, chars, all_good, utf8}
use Rattle.characters.specs.WhiteSpace.{in_ranges, white_spaces, white_space, blank, white}
use Rattle.amount.specs.Amount.{hundredths, in_range, amount_of, parsed_amount}
use Rattle.amount.specs.Decimal.{negative, unsigned, digits_of, past_digits, pointed, past_point, whole, fraction, decimal, signed}
use Rattle.date.specs.Date.{leap, days, is_day, year, month, day, eight_digits, date_of, parsed_date}
use Rattle.codes.specs.CodeList.{meaning}
use Rattle.codes.specs.Rules.{bit, in_force}
use Rattle.codes.specs.VatPoint.{vat_point_date_codes, vat_point_date_code_of}
use Rattle.settlement.specs.Kinds.{same_kind, home, meant, kinds, kind_named}
use Rattle.settlement.specs.Values.{entry, trim_in, filled, text_in, own_text, text_bytes, first, kid, kid_text, attribute, missing, answered, required_amount, required_code, percent, not_vat, amount, date}
use Rattle.settlement.specs.Tax.{point_date, fresh_code, point_code, trade_tax_of}
use Rattle.settlement.specs.Summation.{sums, sum_of, is_currency, with_vat, tax_in, tax_amount, tax_total_of, summand, summing, summed, totals}
use Rattle.settlement.specs.Walk.{said}
use Rattle.settlement.specs.Settlement.{quiet, own, kind_of, so_far, unseen, seen, act, step, says_of, debited, debit_of, late_of, terms_of, after, reading_of, reading}
use Rattle.settlement.specs.Tree.{tree_doc}
use Rattle.settlement.specs.Edges.{All, edges}

pub edges_hold : All edges
unfolding edges digit all_digits number equal within cut all_white before through kept_of trimmed trim_of is_scalar encode bytes tail scalar two three four char_of front chars all_good utf8 in_ranges white_spaces white_space blank white hundredths in_range amount_of parsed_amount negative unsigned digits_of past_digits pointed past_point whole fraction decimal signed meaning bit in_force vat_point_date_codes vat_point_date_code_of leap days is_day year month day eight_digits date_of parsed_date same_kind home meant kinds kind_named entry trim_in filled text_in own_text text_bytes first kid kid_text attribute missing answered required_amount required_code percent not_vat amount date point_date fresh_code point_code trade_tax_of sums sum_of is_currency with_vat tax_in tax_amount tax_total_of summand summing summed totals said quiet own kind_of so_far unseen seen act step says_of debited debit_of late_of terms_of after reading_of reading tree_doc
edges_hold = (refl, (refl, (refl, (refl, (refl, (refl, (refl, (refl, (refl, (refl, (refl, (refl, (refl, (refl, (refl, (refl, tt))))))))))))))))
