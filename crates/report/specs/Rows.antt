-- The rows of a reading (document 01, "Rows"), over what stands for a text: its place, or its bytes. Amounts are hundredths, a percentage is an unscaled number and its scale, a date is the number CCYYMMDD.
use Rattle.std.proofs.Math.Option.{Option, map}
use Rattle.std.specs.Prelude.{Bool, cond, ℕ, ℤ}
use Rattle.names.specs.declared.message.Message.{Message}
use Rattle.names.specs.declared.path.Path.{Path}
use Rattle.names.specs.declared.term.Term.{Term}
use Rattle.names.specs.declared.parent.Parent.{Parent}

-- len bytes of the lent text from start on
pub record Place : Type 0 where
  pub start : ℕ
  pub len : ℕ

-- one thing to say: the index counts the term's group within its own kind
pub record Entry (X : Type 0) : Type 0 where
  pub message : Message
  pub path : Path
  pub term : Option Term
  pub index : Option ℕ
  pub value : Option X

-- BG-17 credit transfer: BT-84 account, BT-85 name, BT-86 provider
pub record Transfer (X : Type 0) : Type 0 where
  pub account : Option X
  pub name : Option X
  pub provider : Option X

-- BG-23 VAT breakdown: BT-116 taxable amount, BT-117 tax amount, BT-118 category, BT-119 rate, BT-120 exemption reason, BT-121 its code
pub record Vat (X : Type 0) : Type 0 where
  pub taxable : ℤ
  pub tax : ℤ
  pub category : X
  pub rate : Option (ℤ × ℕ)
  pub reason : Option X
  pub code : Option X

-- BG-20 document level allowance, BG-21 charge: BT-92/99 amount, BT-93/100 base, BT-94/101 percentage, BT-95/102 VAT category, BT-96/103 VAT rate, BT-97/104 reason, BT-98/105 its code
pub record AllowanceCharge (X : Type 0) : Type 0 where
  pub amount : ℤ
  pub base : Option ℤ
  pub percentage : Option (ℤ × ℕ)
  pub category : X
  pub rate : Option (ℤ × ℕ)
  pub reason : Option X
  pub code : Option X

-- BG-3 preceding invoice: BT-25 reference, BT-26 issue date
pub record Preceding (X : Type 0) : Type 0 where
  pub reference : X
  pub date : Option ℕ

-- what the reader holds, one row each
pub data Held (X : Type 0) : Type 0 where
  transfer : Transfer X → Held X
  vat : Vat X → Held X
  allowance : AllowanceCharge X → Held X
  charge : AllowanceCharge X → Held X
  preceding : Preceding X → Held X

-- the row of an allowance or a charge, by whether it is a charge
abbrev pub held_as : {X : Type 0} → Bool → AllowanceCharge X → Held X
held_as b a = cond b charge allowance a

-- an element that the reader does not map
pub record Unmapped (X : Type 0) : Type 0 where
  pub parent : Parent
  pub name : X

-- the same rows with their texts exchanged for what f makes of them
module _ {X Y : Type 0} (f : X → Y) where
  unfoldable pub map_entry : Entry X → Entry Y
  map_entry e = record { message = e.message; path = e.path; term = e.term; index = e.index; value = map f e.value }

  unfoldable pub map_transfer : Transfer X → Transfer Y
  map_transfer t = record { account = map f t.account; name = map f t.name; provider = map f t.provider }

  unfoldable pub map_vat : Vat X → Vat Y
  map_vat v = record { taxable = v.taxable; tax = v.tax; category = f v.category; rate = v.rate; reason = map f v.reason; code = map f v.code }

  unfoldable pub map_allowance_charge : AllowanceCharge X → AllowanceCharge Y
  map_allowance_charge a =
      record {
        amount = a.amount;
        base = a.base;
        percentage = a.percentage;
        category = f a.category;
        rate = a.rate;
        reason = map f a.reason;
        code = map f a.code;
      }

  unfoldable pub map_preceding : Preceding X → Preceding Y
  map_preceding p = record { reference = f p.reference; date = p.date }

  unfoldable pub map_held : Held X → Held Y
  map_held (transfer t) = transfer (map_transfer t)
  map_held (vat v) = vat (map_vat v)
  map_held (allowance a) = allowance (map_allowance_charge a)
  map_held (charge a) = charge (map_allowance_charge a)
  map_held (preceding p) = preceding (map_preceding p)

  unfoldable pub map_unmapped : Unmapped X → Unmapped Y
  map_unmapped u = record { parent = u.parent; name = f u.name }
