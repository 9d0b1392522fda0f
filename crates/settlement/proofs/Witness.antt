-- A witness of demand 3: two accepted tables, laid out differently, that describe the same settlement except for an exchange: below the children texts, a grandchild and an attribute twice. Entries and rows come in another order.
use mathlib.Core.Path.{◌≡◌, refl, ap, fun_ext}
use mathlib.Core.Bool.{Bool, true, false, cond}
use mathlib.Core.List.{List, [], ◌∷◌, map}
use mathlib.Core.Logic.{◌≢◌, inl, inr}
use mathlib.Core.Option
use mathlib.Core.Option.{Option, none, some}
use Prim.Native.Nat.{ℕ}
use native.Mathlib.Omega.{arith}
use lib.IntN.{pos}
use lib.ListN.{get_or}
use Rattle.text.specs.Digits.{digit, all_digits, number}
use Rattle.text.specs.Order.{equal}
use Rattle.text.specs.Range.{within}
use Rattle.text.specs.Span.{cut, clipped}
use Rattle.text.specs.Utf8.{encode, bytes}
use Rattle.characters.specs.Characters.{tail, scalar, two, three, four, char_of, front, chars, all_good, utf8}
use Rattle.characters.specs.Trim.{all_white, before, through, kept_of, trimmed, trim_of}
use Rattle.characters.specs.WhiteSpace.{in_ranges, white_spaces, white_space, white}
use Rattle.amount.specs.Amount.{hundredths, in_range, amount_of as amount_in, parsed_amount}
use Rattle.amount.specs.Decimal.{negative, unsigned, digits_of, past_digits, pointed, past_point, whole, fraction, decimal, signed}
use Rattle.codes.specs.Boolean.{literals, boolean_of}
use Rattle.codes.specs.CodeList.{meaning}
use Rattle.codes.specs.Currency.{currency_codes, among, listed}
use Rattle.codes.specs.Rules.{bit, in_force}
use Rattle.table.specs.Table.{name_of, text_of, named, kin, below, kids, attrs, first_of, first_from}
use Rattle.refusals.specs.Refusals.{ragged, oversized, not_root, misplaced, beyond, outside, not_utf8, not_settlement, record_refusal, size_refusal, refusal}
use Rattle.names.specs.Message.{message_number}
use Rattle.report.specs.Rows.{Place, Entry, Held, vat, allowance, map_vat, map_allowance_charge, map_held}
use Rattle.settlement.specs.Shapes.{Reading}
use Rattle.settlement.specs.Document.{maybe}
use Rattle.settlement.specs.Values.{Lent, entry, trim_in, filled, text_in, own_text, text_bytes, first, kid, kid_text, attribute, missing, answered, amount_message, parsed, wrong_currency, in_currency, amount_from, amount_of, amount, required_amount, required_code, percent, not_vat, date}
use Rattle.settlement.specs.Kinds.{same_kind, home, meant, kinds, kind_named}
use Rattle.settlement.specs.Tax.{point_date, point_code, trade_tax_of, category_of, indicated, indicator, is_charge, allowance_charge_of, allowance_or_charge}
use Rattle.settlement.specs.Walk.{said}
use Rattle.settlement.specs.Settlement.{quiet, own, kind_of, seen, act, step, says_of, holds_of, debited, debit_of, late_of, after, reading_of, reading}
use Rattle.settlement.specs.TableDoc.{text_at, own_text_at, shows, table_doc}
use Rattle.settlement.specs.Tree.{Tree, node, nothing, tree_kids, tree_doc, element, tree, tree_of}
use Rattle.settlement.specs.Outcome.{Room, room_for, read, unknown_mode, unknown_rules, cramped, call_refusal, outcome, shown}
use Rattle.settlement.specs.Shown.{map_reading}
use Rattle.settlement.specs.Exchange.{LeftOut, Exchanged}
use Rattle.settlement.specs.Edges.{leaf, branch}

-- mode 0, all rules in force
abbrev pub lent : Lent
lent = record { mode = 0; rules = 4095; currency = []; extension = false }

-- room for twelve records
abbrev pub room : Room
room = room_for 12

-- a VAT breakdown before an allowance; its amount has currencyID twice, of which the earlier counts
unfoldable pub left_table : List ℕ
left_table =
    1 ∷ 0 ∷ 0 ∷ 31 ∷ 0 ∷ 0 ∷
    2 ∷ 0 ∷ 31 ∷ 4 ∷ 0 ∷ 0 ∷
    1 ∷ 0 ∷ 35 ∷ 18 ∷ 0 ∷ 0 ∷
    1 ∷ 2 ∷ 53 ∷ 16 ∷ 69 ∷ 4 ∷
    2 ∷ 3 ∷ 73 ∷ 10 ∷ 83 ∷ 3 ∷
    2 ∷ 3 ∷ 73 ∷ 10 ∷ 86 ∷ 3 ∷
    1 ∷ 2 ∷ 89 ∷ 12 ∷ 101 ∷ 1 ∷
    1 ∷ 0 ∷ 102 ∷ 29 ∷ 0 ∷ 0 ∷
    1 ∷ 7 ∷ 131 ∷ 15 ∷ 0 ∷ 0 ∷
    1 ∷ 8 ∷ 146 ∷ 9 ∷ 155 ∷ 5 ∷
    1 ∷ 7 ∷ 160 ∷ 12 ∷ 172 ∷ 1 ∷
    1 ∷ 7 ∷ 173 ∷ 6 ∷ 179 ∷ 5 ∷ []

unfoldable pub left_text : List ℕ
left_text = bytes "ApplicableHeaderTradeSettlementunitApplicableTradeTaxCalculatedAmount1.90currencyIDEURZZZCategoryCodeSSpecifiedTradeAllowanceChargeChargeIndicatorIndicatorfalseActualAmountxReasonBonus"

-- the allowance first, the records level by level, every name and text elsewhere, and another currencyID that does not count
unfoldable pub right_table : List ℕ
right_table =
    1 ∷ 0 ∷ 153 ∷ 31 ∷ 0 ∷ 0 ∷
    1 ∷ 0 ∷ 124 ∷ 29 ∷ 0 ∷ 0 ∷
    1 ∷ 0 ∷ 106 ∷ 18 ∷ 0 ∷ 0 ∷
    1 ∷ 1 ∷ 91 ∷ 15 ∷ 0 ∷ 0 ∷
    1 ∷ 1 ∷ 79 ∷ 12 ∷ 78 ∷ 1 ∷
    1 ∷ 1 ∷ 72 ∷ 6 ∷ 67 ∷ 5 ∷
    1 ∷ 2 ∷ 51 ∷ 16 ∷ 47 ∷ 4 ∷
    1 ∷ 2 ∷ 35 ∷ 12 ∷ 34 ∷ 1 ∷
    1 ∷ 3 ∷ 25 ∷ 9 ∷ 20 ∷ 5 ∷
    2 ∷ 6 ∷ 10 ∷ 10 ∷ 7 ∷ 3 ∷
    2 ∷ 6 ∷ 10 ∷ 10 ∷ 4 ∷ 3 ∷
    2 ∷ 0 ∷ 0 ∷ 4 ∷ 0 ∷ 0 ∷ []

unfoldable pub right_text : List ℕ
right_text = bytes "unitUSDEURcurrencyIDfalseIndicatorSCategoryCode1.90CalculatedAmountBonusReasonxActualAmountChargeIndicatorApplicableTradeTaxSpecifiedTradeAllowanceChargeApplicableHeaderTradeSettlement"

pub left_read : outcome lent room left_table left_text ≡ read (reading lent (table_doc left_table left_text) 0)
unfolding left_table left_text outcome call_refusal unknown_mode unknown_rules cramped refusal ragged size_refusal oversized not_root record_refusal first_from misplaced outside beyond not_utf8 not_settlement name_of text_of named equal bytes encode clipped cut utf8 chars front char_of two three four tail scalar all_good within
left_read = refl

pub right_read : outcome lent room right_table right_text ≡ read (reading lent (table_doc right_table right_text) 0)
unfolding right_table right_text outcome call_refusal unknown_mode unknown_rules cramped refusal ragged size_refusal oversized not_root record_refusal first_from misplaced outside beyond not_utf8 not_settlement name_of text_of named equal bytes encode clipped cut utf8 chars front char_of two three four tail scalar all_good within
right_read = refl

-- the two children, by the attributes of the breakdown's amount
abbrev breakdown : (List ℕ → Option (List ℕ)) → Tree
breakdown a = branch "ApplicableTradeTax" (node (bytes "CalculatedAmount") (some (bytes "1.90")) a nothing ∷ leaf "CategoryCode" "S" ∷ [])

abbrev discount : Tree
discount = branch "SpecifiedTradeAllowanceCharge" (branch "ChargeIndicator" (leaf "Indicator" "false" ∷ []) ∷ leaf "ActualAmount" "x" ∷ leaf "Reason" "Bonus" ∷ [])

-- its currencyID is EUR, and it has no other attribute
abbrev euro : List ℕ → Option (List ℕ)
euro w = cond (equal (bytes "currencyID") w) (some (bytes "EUR")) none

-- of two records of one name the earlier counts, whatever the later says
earlier : (t x : List ℕ) (i j : ℕ) (k : List ℕ) → shows x (text_at t i) ≡ k → (b : Bool) → Option.map (shows x) (maybe none (λ (r : ℕ). some (text_at t r)) (cond b (some i) (cond b (some j) none))) ≡ cond b (some k) none
earlier t x i j k e true = ap some e
earlier t x i j k e false = refl

left_kids : tree_kids (tree_of left_table left_text 0) ≡ breakdown euro ∷ discount ∷ []
unfolding left_table left_text tree_of tree element table_doc own_text_at shows clipped kids below kin attrs named name_of first_of bytes encode
left_kids = ap (λ (a : List ℕ → Option (List ℕ)). breakdown a ∷ discount ∷ []) (fun_ext (λ w. earlier left_table left_text 4 5 (bytes "EUR") refl (equal (bytes "currencyID") w)))

right_kids : tree_kids (tree_of right_table right_text 0) ≡ discount ∷ breakdown euro ∷ []
unfolding right_table right_text tree_of tree element table_doc own_text_at shows clipped kids below kin attrs named name_of first_of bytes encode
right_kids = ap (λ (a : List ℕ → Option (List ℕ)). discount ∷ breakdown a ∷ []) (fun_ext (λ w. earlier right_table right_text 9 10 (bytes "EUR") refl (equal (bytes "currencyID") w)))

-- texts that are the same have the same first byte
head : {a b : List ℕ} → a ≡ b → get_or a 0 0 ≡ get_or b 0 0
head e = ap (λ (l : List ℕ). get_or l 0 0) e

-- the pair is not left out
free : ¬ LeftOut (bytes "ApplicableTradeTax") (bytes "SpecifiedTradeAllowanceCharge")
unfolding bytes encode
free (inl (inl p)) = absurd (let h : ◌≡◌ {A = ℕ} 65 73 = head p.0 in omega arith)
free (inl (inr (inl p))) = absurd (let h : ◌≡◌ {A = ℕ} 65 84 = head p.0 in omega arith)
free (inl (inr (inr p))) = absurd (let h : ◌≡◌ {A = ℕ} 65 83 = head p.0 in omega arith)
free (inr (inl p)) = absurd (let h : ◌≡◌ {A = ℕ} 83 73 = head p.0 in omega arith)
free (inr (inr (inl p))) = absurd (let h : ◌≡◌ {A = ℕ} 83 84 = head p.0 in omega arith)
free (inr (inr (inr p))) = absurd (let h : ◌≡◌ {A = ℕ} 65 83 = head p.1 in omega arith)

different : bytes "ApplicableTradeTax" ≢ bytes "SpecifiedTradeAllowanceCharge"
unfolding bytes encode
different e = absurd (let h : ◌≡◌ {A = ℕ} 65 83 = head e in omega arith)

-- the trees differ by an exchange of the two children
pub witness : Exchanged tree_doc (tree_of left_table left_text 0) (tree_of right_table right_text 0)
unfolding tree_doc
witness = record { pre = []; x = breakdown euro; y = discount; post = []; left = left_kids; right = right_kids; names = different; allowed = free }

-- the messages of a reading, in order
abbrev pub messages_of : Reading Place → List ℕ
messages_of r = map (λ (e : Entry Place). message_number e.message) r.entries

-- what is said of the VAT breakdown comes first on the left, and of the allowance on the right
pub left_messages : messages_of (reading lent (table_doc left_table left_text) 0) ≡ 9 ∷ 9 ∷ 3 ∷ 9 ∷ 9 ∷ 9 ∷ 9 ∷ []
unfolding left_table left_text digit all_digits number equal within cut trimmed all_white before through kept_of trim_of encode bytes tail scalar two three four char_of front chars all_good utf8 in_ranges white_spaces white_space white hundredths in_range amount_in parsed_amount negative unsigned digits_of past_digits pointed past_point whole fraction decimal signed bit in_force among currency_codes listed meaning literals boolean_of same_kind home meant kinds kind_named entry trim_in filled text_in own_text text_bytes first kid kid_text attribute missing answered amount_message parsed wrong_currency in_currency amount_from amount_of amount required_amount required_code percent not_vat date point_date point_code trade_tax_of indicated indicator is_charge category_of allowance_charge_of allowance_or_charge said quiet own kind_of seen act step says_of holds_of debited debit_of late_of after reading_of reading table_doc own_text_at shows clipped name_of named kids below kin attrs first_of
left_messages = refl

pub right_messages : messages_of (reading lent (table_doc right_table right_text) 0) ≡ 9 ∷ 3 ∷ 9 ∷ 9 ∷ 9 ∷ 9 ∷ 9 ∷ []
unfolding right_table right_text digit all_digits number equal within cut trimmed all_white before through kept_of trim_of encode bytes tail scalar two three four char_of front chars all_good utf8 in_ranges white_spaces white_space white hundredths in_range amount_in parsed_amount negative unsigned digits_of past_digits pointed past_point whole fraction decimal signed bit in_force among currency_codes listed meaning literals boolean_of same_kind home meant kinds kind_named entry trim_in filled text_in own_text text_bytes first kid kid_text attribute missing answered amount_message parsed wrong_currency in_currency amount_from amount_of amount required_amount required_code percent not_vat date point_date point_code trade_tax_of indicated indicator is_charge category_of allowance_charge_of allowance_or_charge said quiet own kind_of seen act step says_of holds_of debited debit_of late_of after reading_of reading table_doc own_text_at shows clipped name_of named kids below kin attrs first_of
right_messages = refl

-- the rows, of which both show a text
abbrev breakdown_row : Held (List ℕ)
breakdown_row = vat (record { taxable = pos 0; tax = pos 190; category = bytes "S"; rate = none; reason = none; code = none })

abbrev discount_row : Held (List ℕ)
discount_row = allowance (record { amount = pos 0; base = none; percentage = none; category = []; rate = none; reason = some (bytes "Bonus"); code = none })

pub left_held : (shown left_text (reading lent (table_doc left_table left_text) 0)).held ≡ breakdown_row ∷ discount_row ∷ []
unfolding left_table left_text shown map_reading map_held map_vat map_allowance_charge digit all_digits number equal within cut trimmed all_white before through kept_of trim_of encode bytes tail scalar two three four char_of front chars all_good utf8 in_ranges white_spaces white_space white hundredths in_range amount_in parsed_amount negative unsigned digits_of past_digits pointed past_point whole fraction decimal signed bit in_force among currency_codes listed meaning literals boolean_of same_kind home meant kinds kind_named entry trim_in filled text_in own_text text_bytes first kid kid_text attribute missing answered amount_message parsed wrong_currency in_currency amount_from amount_of amount required_amount required_code percent not_vat date point_date point_code trade_tax_of indicated indicator is_charge category_of allowance_charge_of allowance_or_charge said quiet own kind_of seen act step says_of holds_of debited debit_of late_of after reading_of reading table_doc own_text_at shows clipped name_of named kids below kin attrs first_of
left_held = refl

pub right_held : (shown right_text (reading lent (table_doc right_table right_text) 0)).held ≡ discount_row ∷ breakdown_row ∷ []
unfolding right_table right_text shown map_reading map_held map_vat map_allowance_charge digit all_digits number equal within cut trimmed all_white before through kept_of trim_of encode bytes tail scalar two three four char_of front chars all_good utf8 in_ranges white_spaces white_space white hundredths in_range amount_in parsed_amount negative unsigned digits_of past_digits pointed past_point whole fraction decimal signed bit in_force among currency_codes listed meaning literals boolean_of same_kind home meant kinds kind_named entry trim_in filled text_in own_text text_bytes first kid kid_text attribute missing answered amount_message parsed wrong_currency in_currency amount_from amount_of amount required_amount required_code percent not_vat date point_date point_code trade_tax_of indicated indicator is_charge category_of allowance_charge_of allowance_or_charge said quiet own kind_of seen act step says_of holds_of debited debit_of late_of after reading_of reading table_doc own_text_at shows clipped name_of named kids below kin attrs first_of
right_held = refl
