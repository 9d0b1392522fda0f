-- Laws of the end of a reading.
use mathlib.Core.Path.{◌≡◌}
use mathlib.Core.Bool.{Bool}
use mathlib.Core.Option.{Option}
use Prim.Native.Nat.{ℕ}
use Rattle.settlement.specs.Shapes.{Payee, Means, Period, Totals, Terms}

-- terms that were made of values that are the same
pub terms_made :
    {X : Type 0} {n5 n6 n19 n20 n81 n82 : Option X} {n7 n8 n9 : Option ℕ} {g10 : Option (Payee X)} {g14 : Option Period} {a a' : Bool} {b b' : Option X} {c c' : Means X} {d d' e e' : Option X} {f f' : Totals} →
    a ≡ a' →
    b ≡ b' →
    c ≡ c' →
    d ≡ d' →
    e ≡ e' →
    f ≡ f' →
    ◌≡◌ {A = Terms X}
    (record { bt5 = n5; bt6 = n6; bt7 = n7; bt8 = n8; bt9 = n9; bt19 = n19; bt20 = n20; payee = g10; period = g14; paid = a; bt81 = n81; bt82 = n82; bt83 = b; means = c; bt89 = d; bt90 = e; totals = f })
    (record { bt5 = n5; bt6 = n6; bt7 = n7; bt8 = n8; bt9 = n9; bt19 = n19; bt20 = n20; payee = g10; period = g14; paid = a'; bt81 = n81; bt82 = n82; bt83 = b'; means = c'; bt89 = d'; bt90 = e'; totals = f' })
terms_made p q r s u v = rw (p, q, r, s, u, v)
