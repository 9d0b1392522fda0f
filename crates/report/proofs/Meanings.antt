-- Rows that are the same numbers mean the same, up to the place of an empty text.
use mathlib.Core.Path.{◌≡◌, refl, sym, ap, ◌∙◌}
use mathlib.Core.List.{List}
use mathlib.Core.Option.{Option, none, some, map}
use Prim.Native.Nat.{ℕ}
use native.Mathlib.Omega.{arith}
use lib.IntN.{ℤ, pos, pos-ne-negsuc}
use lib.ListN.{get_or}
use Rattle.report.specs.Rows.{Place, Entry, Transfer, Vat, AllowanceCharge, Preceding, Held, transfer, vat, allowance, charge, preceding, Unmapped, map_entry, map_transfer, map_vat, map_allowance_charge, map_preceding, map_held, map_unmapped}
use Rattle.report.specs.Encoding.{tidy, place_start, place_length, text_start, text_length, unscaled, scale, present, hundredths, or_absent, entry_row, allowance_charge_row, held_row, unmapped_row}
use Rattle.names.proofs.Numbers.{message_same, path_same, maybe_term_same, parent_same}

-- the numbers at one place of two rows
at : {v w : List ℤ} → v ≡ w → (i : ℕ) → get_or v i (pos 0) ≡ get_or w i (pos 0)
at e i = ap (λ (l : List ℤ). get_or l i (pos 0)) e

-- a value of two parts
place_made : {s t m n : ℕ} → s ≡ t → m ≡ n → ◌≡◌ {A = Place} (record { start = s; len = m }) (record { start = t; len = n })
place_made e f = rw (e, f)

paired : {a b : ℤ} {m n : ℕ} → a ≡ b → m ≡ n → ◌≡◌ {A = Option (ℤ × ℕ)} (some (a, m)) (some (b, n))
paired e f = rw (e, f)

-- the numbers of one field
place_same : (p q : Place) → place_start p ≡ place_start q → place_length p ≡ place_length q → tidy p ≡ tidy q
unfolding tidy
place_same p q s l = place_made (cc) (cc)

text_same : (t u : Option Place) → text_start t ≡ text_start u → text_length t ≡ text_length u → map tidy t ≡ map tidy u
text_same none none s l = refl
text_same none (some q) s l = absurd (pos-ne-negsuc _ _ (sym s))
text_same (some p) none s l = absurd (pos-ne-negsuc _ _ s)
text_same (some p) (some q) s l = ap some (place_same p q s l)

number_same : (m n : Option ℕ) → or_absent m ≡ or_absent n → m ≡ n
number_same none none e = refl
number_same none (some n) e = absurd (pos-ne-negsuc _ _ (sym e))
number_same (some m) none e = absurd (pos-ne-negsuc _ _ e)
number_same (some m) (some n) e = cc

percent_same : (p q : Option (ℤ × ℕ)) → unscaled p ≡ unscaled q → scale p ≡ scale q → p ≡ q
percent_same none none u s = refl
percent_same none (some q) u s = absurd (pos-ne-negsuc _ _ (sym s))
percent_same (some p) none u s = absurd (pos-ne-negsuc _ _ s)
percent_same (some p) (some q) u s = paired u (cc)

amount_same : (a b : Option ℤ) → present a ≡ present b → hundredths a ≡ hundredths b → a ≡ b
amount_same none none p h = refl
amount_same none (some b) p h = absurd (let w : ◌≡◌ {A = ℕ} 0 1 = cc in omega arith)
amount_same (some a) none p h = absurd (let w : ◌≡◌ {A = ℕ} 1 0 = cc in omega arith)
amount_same (some a) (some b) p h = cc

pub entry_same : (e f : Entry Place) → entry_row e ≡ entry_row f → map_entry tidy e ≡ map_entry tidy f
unfolding entry_row map_entry
entry_same e f h =
    let m = message_same e.message f.message (cc) in
    let p = path_same e.path f.path (cc) in
    let t = maybe_term_same e.term f.term (cc) in
    let i = number_same e.index f.index (cc) in
    let v = text_same e.value f.value (cc) (cc) in
    rw (m, p, t, i, v)

pub unmapped_same : (u v : Unmapped Place) → unmapped_row u ≡ unmapped_row v → map_unmapped tidy u ≡ map_unmapped tidy v
unfolding unmapped_row map_unmapped
unmapped_same u v h =
    let p = parent_same u.parent v.parent (cc) in
    let n = place_same u.name v.name (cc) (cc) in
    rw (p, n)

allowance_charge_same : (k : ℕ) (a b : AllowanceCharge Place) → allowance_charge_row k a ≡ allowance_charge_row k b → map_allowance_charge tidy a ≡ map_allowance_charge tidy b
unfolding map_allowance_charge
allowance_charge_same k a b h =
    let x : a.amount ≡ b.amount = at h 1 in
    let y = amount_same a.base b.base (at h 2) (at h 3) in
    let p = percent_same a.percentage b.percentage (at h 4) (at h 5) in
    let c = place_same a.category b.category (at h 6) (at h 7) in
    let r = percent_same a.rate b.rate (at h 8) (at h 9) in
    let s = text_same a.reason b.reason (at h 10) (at h 11) in
    let o = text_same a.code b.code (at h 12) (at h 13) in
    rw (x, y, p, c, r, s, o)

vat_same : (a b : Vat Place) → held_row (vat a) ≡ held_row (vat b) → map_vat tidy a ≡ map_vat tidy b
unfolding held_row map_vat
vat_same a b h =
    let x : a.taxable ≡ b.taxable = at h 1 in
    let y : a.tax ≡ b.tax = at h 2 in
    let c = place_same a.category b.category (at h 3) (at h 4) in
    let r = percent_same a.rate b.rate (at h 5) (at h 6) in
    let s = text_same a.reason b.reason (at h 7) (at h 8) in
    let o = text_same a.code b.code (at h 9) (at h 10) in
    rw (x, y, c, r, s, o)

transfer_same : (a b : Transfer Place) → held_row (transfer a) ≡ held_row (transfer b) → map_transfer tidy a ≡ map_transfer tidy b
unfolding held_row map_transfer
transfer_same a b h =
    let x = text_same a.account b.account (at h 1) (at h 2) in
    let y = text_same a.name b.name (at h 3) (at h 4) in
    let z = text_same a.provider b.provider (at h 5) (at h 6) in
    rw (x, y, z)

preceding_same : (a b : Preceding Place) → held_row (preceding a) ≡ held_row (preceding b) → map_preceding tidy a ≡ map_preceding tidy b
unfolding held_row map_preceding
preceding_same a b h =
    let x = place_same a.reference b.reference (at h 1) (at h 2) in
    let y = number_same a.date b.date (at h 3) in
    rw (x, y)

-- the first number tells the kind
abbrev kind : Held Place → ℕ
kind (transfer t) = 1
kind (vat v) = 2
kind (allowance a) = 3
kind (charge a) = 4
kind (preceding p) = 5

first_kind : (h : Held Place) → get_or (held_row h) 0 (pos 0) ≡ pos (kind h)
unfolding held_row
first_kind (transfer t) = refl
first_kind (vat v) = refl
first_kind (allowance a) = refl
first_kind (charge a) = refl
first_kind (preceding p) = refl

kind_same : (h g : Held Place) → held_row h ≡ held_row g → kind h ≡ kind g
kind_same h g e =
    let q : pos (kind h) ≡ pos (kind g) = sym (first_kind h) ∙ at e 0 ∙ first_kind g in
    cc

pub held_same : (h g : Held Place) → held_row h ≡ held_row g → map_held tidy h ≡ map_held tidy g
unfolding map_held held_row
held_same h g e = go h g e (kind_same h g e)
  where
    go : (h g : Held Place) → held_row h ≡ held_row g → kind h ≡ kind g → map_held tidy h ≡ map_held tidy g
    go (transfer a) (transfer b) e k = ap transfer (transfer_same a b e)
    go (vat a) (vat b) e k = ap vat (vat_same a b e)
    go (allowance a) (allowance b) e k = ap allowance (allowance_charge_same 3 a b e)
    go (charge a) (charge b) e k = ap charge (allowance_charge_same 4 a b e)
    go (preceding a) (preceding b) e k = ap preceding (preceding_same a b e)
    go (transfer a) (vat b) e k = absurd (omega arith)
    go (transfer a) (allowance b) e k = absurd (omega arith)
    go (transfer a) (charge b) e k = absurd (omega arith)
    go (transfer a) (preceding b) e k = absurd (omega arith)
    go (vat a) (transfer b) e k = absurd (omega arith)
    go (vat a) (allowance b) e k = absurd (omega arith)
    go (vat a) (charge b) e k = absurd (omega arith)
    go (vat a) (preceding b) e k = absurd (omega arith)
    go (allowance a) (transfer b) e k = absurd (omega arith)
    go (allowance a) (vat b) e k = absurd (omega arith)
    go (allowance a) (charge b) e k = absurd (omega arith)
    go (allowance a) (preceding b) e k = absurd (omega arith)
    go (charge a) (transfer b) e k = absurd (omega arith)
    go (charge a) (vat b) e k = absurd (omega arith)
    go (charge a) (allowance b) e k = absurd (omega arith)
    go (charge a) (preceding b) e k = absurd (omega arith)
    go (preceding a) (transfer b) e k = absurd (omega arith)
    go (preceding a) (vat b) e k = absurd (omega arith)
    go (preceding a) (allowance b) e k = absurd (omega arith)
    go (preceding a) (charge b) e k = absurd (omega arith)
