-- The state of a reading, a lane for each kind of child, and what a reading holds, over what stands for a text.
use Rattle.std.specs.Prelude.{Bool, false, List, ℕ, ℤ, pos}
use Rattle.std.proofs.Math.Option.{Option, none}
use Rattle.report.specs.Rows.{Entry, Held, Unmapped}
use Rattle.settlement.specs.Kinds.{Kind, creditor_reference, payment_reference, tax_currency, invoice_currency, payee, payment_means, trade_tax, period, allowance_charge, logistics_charge, payment_terms, summation, preceding_invoice, accounting, other}

-- an identifier with its scheme (BT-60, BT-61)
pub record Identifier (X : Type 0) : Type 0 where
  pub content : X
  pub scheme : Option X

-- BG-10 payee: BT-59 name, BT-60 identifier, BT-61 legal registration identifier
pub record Payee (X : Type 0) : Type 0 where
  pub name : Option X
  pub identifier : Option (Identifier X)
  pub legal : Option (Identifier X)

-- the kind of payment means that is held: none yet, BG-18 card (BT-87, BT-88), BG-19 direct debit (BT-91), or BG-17 credit transfers, whose accounts are rows
pub data Means (X : Type 0) : Type 0 where
  unset : Means X
  card : (number holder : Option X) → Means X
  debit : (account : Option X) → Means X
  transfers : Means X

-- the payment so far: whether a payment means was met, BT-81 code, BT-82 text, and the kind of means
pub record Payment (X : Type 0) : Type 0 where
  pub met : Bool
  pub code : Option X
  pub text : Option X
  pub means : Means X

-- VAT so far: breakdowns made, BT-7, BT-8, and the first code as it was written
pub record VatState (X : Type 0) : Type 0 where
  pub count : ℕ
  pub point : Option ℕ
  pub code : Option ℕ
  pub first : Option X

-- BG-20 and BG-21 made so far
pub record Counts : Type 0 where
  pub allowances : ℕ
  pub charges : ℕ

-- BT-20 terms, BT-9 due date, BT-89 mandate
pub record PaymentTerms (X : Type 0) : Type 0 where
  pub note : Option X
  pub due : Option ℕ
  pub mandate : Option X

-- BG-14: BT-73, BT-74
pub record Period : Type 0 where
  pub start : Option ℕ
  pub end : Option ℕ

-- BG-22: BT-106 to BT-115
pub record Totals : Type 0 where
  pub line : ℤ
  pub allowance : Option ℤ
  pub charge : Option ℤ
  pub taxable : ℤ
  pub vat : Option ℤ
  pub vat_accounting : Option ℤ
  pub gross : ℤ
  pub paid : Option ℤ
  pub rounding : Option ℤ
  pub due : ℤ

-- no summation: the required amounts are 0
abbrev pub no_totals : Totals
no_totals = record { line = pos 0; allowance = none; charge = none; taxable = pos 0; vat = none; vat_accounting = none; gross = pos 0; paid = none; rounding = none; due = pos 0 }

-- what each lane holds
abbrev pub Of : Type 0 → Kind → Type 0
Of X creditor_reference = Option X
Of X payment_reference = Option (Option X)
Of X tax_currency = Option X
Of X invoice_currency = Option X
Of X payee = Option (Payee X)
Of X payment_means = Payment X
Of X trade_tax = VatState X
Of X period = Option Period
Of X allowance_charge = Counts
Of X logistics_charge = Unit {0}
Of X payment_terms = PaymentTerms X
Of X summation = Option Totals
Of X preceding_invoice = ℕ
Of X accounting = Option X
Of X other = Unit {0}

-- a value for each lane
abbrev pub State : Type 0 → Type 0
State X = (k : Kind) → Of X k

-- before the first child
abbrev pub blank : (X : Type 0) → State X
blank X creditor_reference = none
blank X payment_reference = none
blank X tax_currency = none
blank X invoice_currency = none
blank X payee = none
blank X payment_means = record { met = false; code = none; text = none; means = unset }
blank X trade_tax = record { count = 0; point = none; code = none; first = none }
blank X period = none
blank X allowance_charge = record { allowances = 0; charges = 0 }
blank X logistics_charge = tt
blank X payment_terms = record { note = none; due = none; mandate = none }
blank X summation = none
blank X preceding_invoice = 0
blank X accounting = none
blank X other = tt

-- what a child makes: the lane's next state, entries, held rows, unmapped names
pub record Act (X S : Type 0) : Type 0 where
  pub next : S
  pub says : List (Entry X)
  pub holds : List (Held X)
  pub strays : List (Unmapped X)

-- BT-5 and BT-6 as read so far
pub record Currencies (X : Type 0) : Type 0 where
  pub bt5 : Option X
  pub bt6 : Option X

-- the terms of a reading (document 01, "Rows": Terms)
pub record Terms (X : Type 0) : Type 0 where
  pub bt5 : Option X
  pub bt6 : Option X
  pub bt7 : Option ℕ
  pub bt8 : Option ℕ
  pub bt9 : Option ℕ
  pub bt19 : Option X
  pub bt20 : Option X
  pub payee : Option (Payee X)
  pub period : Option Period
  pub paid : Bool
  pub bt81 : Option X
  pub bt82 : Option X
  pub bt83 : Option X
  pub means : Means X
  pub bt89 : Option X
  pub bt90 : Option X
  pub totals : Totals

-- terms, held rows, entries and unmapped names
pub record Reading (X : Type 0) : Type 0 where
  pub terms : Terms X
  pub held : List (Held X)
  pub entries : List (Entry X)
  pub unmapped : List (Unmapped X)
