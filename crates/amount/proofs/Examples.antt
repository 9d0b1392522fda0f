-- The examples hold, all of them computed from the definitions.
use mathlib.Core.Path.{◌≡◌, refl}
use mathlib.Core.List.{List, foldl, map}
use Prim.Native.Nat.{ℕ}
use Prim.Native.String.{String}
use lib.IntN.{ℤ}
use Rattle.text.specs.Answer.{Answer}
use Rattle.text.specs.Digits.{digit}
use Rattle.text.specs.Range.{within}
use Rattle.text.specs.Utf8.{bytes, encode}
use Rattle.amount.specs.declared.decimal.Walk.{Walk}
use Rattle.amount.specs.declared.decimal.Walk.TheVariants.{Nothing}
use Rattle.amount.specs.Decimal.{signed}
use Rattle.amount.specs.Answers.{amount_answer, percentage_answer}
use Rattle.amount.specs.Walk.{whole_step, fraction_step, start_step, run, ranged, padded, rated, counted, finish_of, rate_of}
use Rattle.amount.specs.Examples.{states, amounts, percentages}

pub states_hold : map (λ (e : String × Walk). run Nothing (bytes e.0)) states ≡ map (λ (e : String × Walk). e.1) states
unfolding states bytes encode digit within start_step whole_step fraction_step run
states_hold = refl

-- where the calls over such pieces stop: `pieces_met`
abbrev state_of : List String → Walk
state_of ss = foldl run Nothing (map bytes ss)

pub amounts_hold : map (λ (e : List String × Answer ℤ). amount_answer (finish_of (state_of e.0))) amounts ≡ map (λ (e : List String × Answer ℤ). e.1) amounts
unfolding amounts bytes encode digit within start_step whole_step fraction_step run ranged padded counted signed
amounts_hold = refl

pub percentages_hold : map (λ (e : List String × Answer (ℤ × ℕ)). percentage_answer (rate_of (state_of e.0))) percentages ≡ map (λ (e : List String × Answer (ℤ × ℕ)). e.1) percentages
unfolding percentages bytes encode digit within start_step whole_step fraction_step run rated counted signed
percentages_hold = refl
