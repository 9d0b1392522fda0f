-- What was made of values that are the same.
use mathlib.Core.Path.{◌≡◌, refl}
use mathlib.Core.Bool.{cond}
use mathlib.Core.List.{List, []}
use mathlib.Core.Option.{Option}
use Prim.Native.Nat.{ℕ}
use lib.IntN.{ℤ}
use Rattle.std.specs.Option.{is_some}
use Rattle.std.specs.Prelude.{None, Some}
use Rattle.std.specs.declared.option.Option as code
use Rattle.text.specs.Options.{option_of}
use Rattle.codes.specs.VatPoint.{vat_point_answer}
use Rattle.report.specs.Rows.{Place, Vat}
use Rattle.settlement.specs.Document.{maybe}
use Rattle.settlement.specs.Shapes.{VatState}

-- a pair
pub pair_made : {A B : Type 0} {a a' : A} {b b' : B} → a ≡ a' → b ≡ b' → ◌≡◌ {A = A × B} (a, b) (a', b')
pair_made e f = rw (e, f)

-- VAT point date and code
pub state_made :
    {d d' k k' : Option ℕ} {w w' : Option Place} (n : ℕ) → d ≡ d' → k ≡ k' → w ≡ w' → ◌≡◌ {A = VatState Place} (record { count = n; point = d; code = k; first = w }) (record { count = n; point = d'; code = k'; first = w' })
state_made n e f g = rw (e, f, g)

-- a VAT breakdown, with the point date and code
pub vat_made :
    {s s' : VatState Place} {a a' b b' : ℤ} {p p' : Place} {q q' : Option (ℤ × ℕ)} {x x' y y' : Option Place} → s ≡ s' → a ≡ a' → b ≡ b' → p ≡ p' → q ≡ q' → x ≡ x' → y ≡ y' →
    ◌≡◌ {A = VatState Place × Vat Place}
    (s, record { taxable = a; tax = b; category = p; rate = q; reason = x; code = y })
    (s', record { taxable = a'; tax = b'; category = p'; rate = q'; reason = x'; code = y' })
vat_made e f g h i j k = rw (e, f, g, h, i, j, k)

-- the code that was read, if it is known
pub code_read : (o : code.Option ℕ) → (vat_point_answer o).value ≡ option_of o
code_read None = refl
code_read (Some k) = refl

-- and what is said of it where it is not
pub unknown_said : {A : Type 0} (es : List A) (o : code.Option ℕ) → maybe es (λ k. []) (option_of o) ≡ cond (is_some o) [] es
unknown_said es None = refl
unknown_said es (Some k) = refl
